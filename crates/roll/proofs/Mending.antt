-- Readings from a place on, for the place of a refusal: one that succeeds is settled by the bytes up to its end (`Kept`); one that is refused at a place
-- is refused alike on all bytes that are the same up to there and have the same number there, and other bytes from there on mend it (`Broken`).
use Prim.Native.Nat.{ℕ, ◌^◌, ◌≤◌, ◌<◌}
use mathlib.Core.Path.{◌≡◌, refl, sym, ap, ◌∙◌}
use mathlib.Core.Bool.{Bool, true, false, cond, ◌||◌}
use mathlib.Core.List.{List, [], ◌++◌, append_assoc}
use mathlib.Core.Logic.{◌⊎◌, inl, inr}
use native.Mathlib.Omega.{arith}
use lib.Dec.{ltb}
use lib.ListN.{length, take, drop}
use Rattle.laws.proofs.Cases.{clash}
use Rattle.laws.proofs.Lists.{take_less}
use Rattle.number.specs.Read.{Number}
use Rattle.number.specs.Read as number
use Rattle.number.specs.Numbers.{bytes_of, read_at}
use Rattle.number.proofs.Reading.{read-inside, read_alike}
use Rattle.roll.specs.Field.{Field}
use Rattle.roll.specs.Field as field
use Rattle.roll.specs.Reading.{Reading, got, refused, wrong_place, opened, within_at, onward, and_then}
use Rattle.roll.specs.Places.{Leads, here, over}
use Rattle.roll.proofs.FieldLaws.{taken}
use Rattle.roll.proofs.Filling.{onward-is}
use Rattle.roll.proofs.Back.{field_back}
use Rattle.std.specs.Prelude.{Err}
use Rattle.kind.specs.declared.refusals.Refusal.{Refusal}
use Rattle.kind.specs.declared.refusals.Refusal.TheVariants.{BadRoll, CutRoll}
use Rattle.kind.proofs.Faults.{err-both}

-- t begins as s does, up to a place
abbrev pub Alike : ℕ → List ℕ → List ℕ → Type 0
Alike p s t = take p t ≡ take p s

-- ---- places

pub leads-le : {s : List ℕ} {at place : ℕ} → Leads s at place → at ≤ place
leads-le here = omega arith
leads-le {s = s} (over {at} {n} {next} e rest) = omega (arith, (read-inside s at n next e).0, leads-le rest)

pub leads-inside : {s : List ℕ} {at place : ℕ} → at ≤ length s → Leads s at place → place ≤ length s
leads-inside inside here = inside
leads-inside {s = s} inside (over {at} {n} {next} e rest) = leads-inside (read-inside s at n next e).1 rest

pub leads-on : {s : List ℕ} {a b c : ℕ} → Leads s a b → Leads s b c → Leads s a c
leads-on here q = q
leads-on (over e p) q = over e (leads-on p q)

-- ---- readings of any part, from a place on

pub record Kept {A : Type 0} (X : List ℕ → Reading A) (s : List ℕ) (at end : ℕ) : Type 0 where
  pub leads : Leads s at end
  pub same : (t : List ℕ) → Alike end s t → X t ≡ X s

pub record Broken {A : Type 0} (X : List ℕ → Reading A) (s : List ℕ) (at : ℕ) (r : Refusal) (p : ℕ) : Type 0 where
  pub leads : Leads s at p
  pub same : (t : List ℕ) → Alike p s t → read_at t p ≡ read_at s p → X t ≡ refused r p
  pub missing : (t : List ℕ) → Alike p s t → read_at t p ≡ number.Ended → X t ≡ refused CutRoll p
  pub mend : List ℕ
  pub value : A
  pub mended : (t rest : List ℕ) → Alike p s t → drop p t ≡ mend ++ rest → (end : ℕ) × (X t ≡ got value end) × (drop end t ≡ rest)

-- some bytes read, wherever they stand
pub record SomeBytes {A : Type 0} (X : ℕ → List ℕ → Reading A) : Type 0 where
  pub bytes : List ℕ
  pub value : A
  pub reads : (t rest : List ℕ) (at : ℕ) → drop at t ≡ bytes ++ rest → (end : ℕ) × (X at t ≡ got value end) × (drop end t ≡ rest)

-- ---- what is made of a reading

pub kept-made : {A B : Type 0} (f : A → B) (X : List ℕ → Reading A) (s : List ℕ) (at end : ℕ) → Kept X s at end → Kept (λ t. and_then (X t) (λ a e. got (f a) e)) s at end
kept-made {A = A} f X s at end k = record { leads = k.leads; same = λ t alike. ap (λ (x : Reading A). and_then x (λ a e. got (f a) e)) (k.same t alike) }

pub broken-made : {A B : Type 0} (f : A → B) (X : List ℕ → Reading A) (s : List ℕ) (at : ℕ) (r : Refusal) (p : ℕ) → Broken X s at r p → Broken (λ t. and_then (X t) (λ a e. got (f a) e)) s at r p
broken-made {A = A} f X s at r p b =
    record {
      leads = b.leads;
      same = λ t alike e. ap (λ (x : Reading A). and_then x (λ a e. got (f a) e)) (b.same t alike e);
      missing = λ t alike e. ap (λ (x : Reading A). and_then x (λ a e. got (f a) e)) (b.missing t alike e);
      mend = b.mend;
      value = f b.value;
      mended = λ t rest alike is. let m = b.mended t rest alike is in (m.0, ap (λ (x : Reading A). and_then x (λ a e. got (f a) e)) m.1, m.2);
    }

pub some-made : {A B : Type 0} (f : A → B) (X : ℕ → List ℕ → Reading A) → SomeBytes X → SomeBytes (λ at t. and_then (X at t) (λ a e. got (f a) e))
some-made {A = A} f X c =
    record {
      bytes = c.bytes;
      value = f c.value;
      reads = λ t rest at is. let m = c.reads t rest at is in (m.0, ap (λ (x : Reading A). and_then x (λ a e. got (f a) e)) m.1, m.2);
    }

-- ---- a number, then what follows it

pub field_alike : (s t : List ℕ) (at low high n next p : ℕ) → within_at s at low high ≡ field.Is n next → next ≤ p → Alike p s t → within_at t at low high ≡ field.Is n next
unfolding within_at
field_alike s t at low high n next p e less alike =
    let read : read_at s at ≡ number.Is n next = (taken s at low high (within_at s at low high) n next refl e).read in
    ap (λ (q : Number). opened q at low high) (read_alike s t at n next read (take_less s t next p less alike) ∙ sym read) ∙ e

pub field-leads : {s : List ℕ} {p : ℕ} (at low high n next : ℕ) → within_at s at low high ≡ field.Is n next → Leads s next p → Leads s at p
field-leads {s = s} at low high n next e rest = over (taken s at low high (within_at s at low high) n next refl e).read rest

pub kept_field : {A : Type 0} (f : ℕ → ℕ → List ℕ → Reading A) (s : List ℕ) (at low high n next end : ℕ) → within_at s at low high ≡ field.Is n next → Kept (f n next) s next end → Kept (λ t. onward (within_at t at low high) (λ n m. f n m t)) s at end
kept_field f s at low high n next end e k =
    record {
      leads = field-leads at low high n next e k.leads;
      same = λ t alike.
          ap (λ (x : Field). onward x (λ n m. f n m t)) (field_alike s t at low high n next end e (leads-le k.leads) alike)
          ∙ k.same t alike
          ∙ sym (ap (λ (x : Field). onward x (λ n m. f n m s)) e);
    }

pub broken-then : {A : Type 0} (f : ℕ → ℕ → List ℕ → Reading A) (s : List ℕ) (at low high n next : ℕ) (r : Refusal) (p : ℕ) → within_at s at low high ≡ field.Is n next → Broken (f n next) s next r p → Broken (λ t. onward (within_at t at low high) (λ n m. f n m t)) s at r p
broken-then {A = A} f s at low high n next r p e b =
    record {
      leads = field-leads at low high n next e b.leads;
      same = λ t alike e. on t alike ∙ b.same t alike e;
      missing = λ t alike e. on t alike ∙ b.missing t alike e;
      mend = b.mend;
      value = b.value;
      mended = λ t rest alike is. let m = b.mended t rest alike is in (m.0, on t alike ∙ m.1, m.2);
    }
  where
    on : (t : List ℕ) → Alike p s t → onward (within_at t at low high) (λ n m. f n m t) ≡ f n next t
    on t alike = ap (λ (x : Field). onward x (λ n m. f n m t)) (field_alike s t at low high n next p e (leads-le b.leads) alike)

-- a number that is refused is refused where it begins
pub opened-place : (q : Number) (at low high : ℕ) (r : Refusal) (p : ℕ) → opened q at low high ≡ field.Refused r p → at ≡ p
opened-place (number.Is n next) at low high r p e = by (ltb n low || ltb high n) e
  where
    by : (b : Bool) → cond b (field.Refused BadRoll (wrong_place at next)) (field.Is n next) ≡ field.Refused r p → at ≡ p
    by true e = (err-both e).1
    by false e = absurd (clash (cc))
opened-place (Err why) at low high r p e = (err-both e).1

-- any number within the limits does, where what follows it reads
pub some_number : {A : Type 0} (f : ℕ → ℕ → List ℕ → Reading A) (low high n : ℕ) → n < 2 ^ 32 → low ≤ n → n ≤ high → SomeBytes (f n) → SomeBytes (λ at t. onward (within_at t at low high) (λ n m. f n m t))
some_number f low high n small above fits c =
    record {
      bytes = bytes_of n ++ c.bytes;
      value = c.value;
      reads = λ t rest at is.
          let r = field_back t (c.bytes ++ rest) at low high n (is ∙ append_assoc (bytes_of n) c.bytes rest) small above fits in
          let m = c.reads t rest r.0 r.2 in
          (m.0, ap (λ (x : Field). onward x (λ n m. f n m t)) r.1 ∙ m.1, m.2);
    }

pub some-field : {A : Type 0} (f : ℕ → ℕ → List ℕ → Reading A) (low high : ℕ) → low < 2 ^ 32 → low ≤ high → SomeBytes (f low) → SomeBytes (λ at t. onward (within_at t at low high) (λ n m. f n m t))
some-field f low high small fits c = some_number f low high low small (omega arith) fits c

-- a number that is refused, where some bytes read from there on
pub broken-number : {A : Type 0} (f : ℕ → ℕ → List ℕ → Reading A) (s : List ℕ) (at low high : ℕ) (r : Refusal) (p : ℕ) → within_at s at low high ≡ field.Refused r p → SomeBytes (λ at t. onward (within_at t at low high) (λ n m. f n m t)) → Broken (λ t. onward (within_at t at low high) (λ n m. f n m t)) s at r p
unfolding within_at
broken-number f s at low high r p e there =
    let place : at ≡ p = opened-place (read_at s at) at low high r p e in
    rw (← place)
    (record {
      leads = here;
      same = λ t alike q. ap (λ (x : Number). onward (opened x at low high) (λ n m. f n m t)) q ∙ ap (λ (x : Field). onward x (λ n m. f n m t)) (rw (← place) at e);
      missing = λ t alike q. ap (λ (x : Number). onward (opened x at low high) (λ n m. f n m t)) q;
      mend = there.bytes;
      value = there.value;
      mended = λ t rest alike is. there.reads t rest at is;
    })

pub broken-field : {A : Type 0} (f : ℕ → ℕ → List ℕ → Reading A) (s : List ℕ) (at low high : ℕ) (r : Refusal) (p : ℕ) → within_at s at low high ≡ field.Refused r p → low < 2 ^ 32 → low ≤ high → SomeBytes (f low) → Broken (λ t. onward (within_at t at low high) (λ n m. f n m t)) s at r p
broken-field f s at low high r p e small fits c = broken-number f s at low high r p e (some-field f low high small fits c)

pub kept-onward : {A : Type 0} (f : ℕ → ℕ → List ℕ → Reading A) (s : List ℕ) (at low high end : ℕ) (a : A) → ((n next : ℕ) → within_at s at low high ≡ field.Is n next → f n next s ≡ got a end → Kept (f n next) s next end)
    → onward (within_at s at low high) (λ n m. f n m s) ≡ got a end → Kept (λ t. onward (within_at t at low high) (λ n m. f n m t)) s at end
kept-onward f s at low high end a then e =
    let o = onward-is (within_at s at low high) (λ n m. f n m s) a end e in
    kept_field f s at low high o.0 o.1 end o.2 (then o.0 o.1 o.2 o.3)

pub broken-onward : {A : Type 0} (f : ℕ → ℕ → List ℕ → Reading A) (s : List ℕ) (at low high : ℕ) (r : Refusal) (p : ℕ) → low < 2 ^ 32 → low ≤ high → SomeBytes (f low)
    → ((n next : ℕ) → within_at s at low high ≡ field.Is n next → f n next s ≡ refused r p → Broken (f n next) s next r p)
    → onward (within_at s at low high) (λ n m. f n m s) ≡ refused r p → Broken (λ t. onward (within_at t at low high) (λ n m. f n m t)) s at r p
broken-onward f s at low high r p small fits c then e = by (within_at s at low high) refl e
  where
    by : (x : Field) → within_at s at low high ≡ x → onward x (λ n m. f n m s) ≡ refused r p → Broken (λ t. onward (within_at t at low high) (λ n m. f n m t)) s at r p
    by (field.Is n next) is e = broken-then f s at low high n next r p is (then n next is e)
    by (Err why) is e =
        let number : why.refusal ≡ r = cc in
        let there : why.place ≡ p = cc in
        broken-field f s at low high r p (rw (number, there) at is) small fits c

-- ---- a reading, then another

pub both-alike : {A B : Type 0} (X : List ℕ → Reading A) (f : A → ℕ → List ℕ → Reading B) (s t : List ℕ) (at m p : ℕ) (a : A) → X s ≡ got a m → Kept X s at m → m ≤ p → Alike p s t → and_then (X t) (λ a e. f a e t) ≡ f a m t
both-alike {A = A} X f s t at m p a e k less alike = ap (λ (x : Reading A). and_then x (λ a e. f a e t)) (k.same t (take_less s t m p less alike) ∙ e)

pub kept_second : {A B : Type 0} (X : List ℕ → Reading A) (f : A → ℕ → List ℕ → Reading B) (s : List ℕ) (at m end : ℕ) (a : A) → X s ≡ got a m → Kept X s at m → Kept (f a m) s m end → Kept (λ t. and_then (X t) (λ a e. f a e t)) s at end
kept_second {A = A} X f s at m end a e k j =
    record {
      leads = leads-on k.leads j.leads;
      same = λ t alike. both-alike X f s t at m end a e k (leads-le j.leads) alike ∙ j.same t alike ∙ sym (ap (λ (x : Reading A). and_then x (λ a e. f a e s)) e);
    }

pub broken-first : {A B : Type 0} (X : List ℕ → Reading A) (f : A → ℕ → List ℕ → Reading B) (s : List ℕ) (at : ℕ) (r : Refusal) (p : ℕ) → ((a : A) → SomeBytes (f a)) → Broken X s at r p → Broken (λ t. and_then (X t) (λ a e. f a e t)) s at r p
broken-first {A = A} X f s at r p some b =
    let c = some b.value in
    record {
      leads = b.leads;
      same = λ t alike e. ap (λ (x : Reading A). and_then x (λ a e. f a e t)) (b.same t alike e);
      missing = λ t alike e. ap (λ (x : Reading A). and_then x (λ a e. f a e t)) (b.missing t alike e);
      mend = b.mend ++ c.bytes;
      value = c.value;
      mended = λ t rest alike is.
          let m = b.mended t (c.bytes ++ rest) alike (is ∙ append_assoc b.mend c.bytes rest) in
          let n = c.reads t rest m.0 m.2 in
          (n.0, ap (λ (x : Reading A). and_then x (λ a e. f a e t)) m.1 ∙ n.1, n.2);
    }

pub broken-second : {A B : Type 0} (X : List ℕ → Reading A) (f : A → ℕ → List ℕ → Reading B) (s : List ℕ) (at m : ℕ) (r : Refusal) (p : ℕ) (a : A) → X s ≡ got a m → Kept X s at m → Broken (f a m) s m r p → Broken (λ t. and_then (X t) (λ a e. f a e t)) s at r p
broken-second X f s at m r p a e k b =
    record {
      leads = leads-on k.leads b.leads;
      same = λ t alike q. both-alike X f s t at m p a e k (leads-le b.leads) alike ∙ b.same t alike q;
      missing = λ t alike q. both-alike X f s t at m p a e k (leads-le b.leads) alike ∙ b.missing t alike q;
      mend = b.mend;
      value = b.value;
      mended = λ t rest alike is.
          let n = b.mended t rest alike is in
          (n.0, both-alike X f s t at m p a e k (leads-le b.leads) alike ∙ n.1, n.2);
    }

-- a reading of which something is made succeeds and fails as it does
pub made_got : {A B : Type 0} (f : A → B) (x : Reading A) (b : B) (end : ℕ) → and_then x (λ a e. got (f a) e) ≡ got b end → (a : A) × (x ≡ got a end)
made_got f (got a e) b end is = (a, cc)
made_got f (refused r p) b end is = absurd (clash (cc))

pub made-refused : {A B : Type 0} (f : A → B) (x : Reading A) (r : Refusal) (p : ℕ) → and_then x (λ a e. got (f a) e) ≡ refused r p → x ≡ refused r p
made-refused f (got a e) r p is = absurd (clash (cc))
made-refused f (refused q o) r p is = cc

pub kept-got : {A : Type 0} (v a : A) (s : List ℕ) (m end : ℕ) → got v m ≡ got a end → Kept (λ t. got v m) s m end
kept-got v a s m end e = let same : m ≡ end = cc in rw (← same) (record { leads = here; same = λ t alike. refl })

pub some-got : {A : Type 0} (v : A) → SomeBytes (λ at t. got v at)
some-got v = record { bytes = []; value = v; reads = λ t rest at is. (at, refl, is) }

-- ---- readings to the end of the bytes

-- as `Broken`, and what mends it ends the bytes
pub record Cut {A : Type 0} (X : List ℕ → Reading A) (s : List ℕ) (at : ℕ) (r : Refusal) (p : ℕ) : Type 0 where
  pub leads : Leads s at p
  pub same : (t : List ℕ) → Alike p s t → read_at t p ≡ read_at s p → X t ≡ refused r p
  pub missing : (t : List ℕ) → Alike p s t → read_at t p ≡ number.Ended → X t ≡ refused CutRoll p
  pub mend : List ℕ
  pub value : A
  pub mended : (t : List ℕ) → Alike p s t → drop p t ≡ mend → X t ≡ got value (length t)

-- everything reads up to the place, and bytes follow
pub record Long {A : Type 0} (X : List ℕ → Reading A) (s : List ℕ) (at : ℕ) (r : Refusal) (p : ℕ) : Type 0 where
  pub leads : Leads s at p
  pub value : A
  pub reads : (t : List ℕ) → Alike p s t → length t ≡ p → X t ≡ got value p
  pub more : (t : List ℕ) → Alike p s t → (p ≡ length t → ⊥) → X t ≡ refused r p
  pub follow : p ≡ length s → ⊥

pub made_ends : {A B : Type 0} (f : A → B) (X : List ℕ → Reading A) (s : List ℕ) (at : ℕ) (r : Refusal) (p : ℕ) → Cut X s at r p ⊎ Long X s at r p → Cut (λ t. and_then (X t) (λ a e. got (f a) e)) s at r p ⊎ Long (λ t. and_then (X t) (λ a e. got (f a) e)) s at r p
made_ends {A = A} {B = B} f X s at r p (inl b) =
    inl (record {
      leads = b.leads;
      same = λ t alike e. ap on (b.same t alike e);
      missing = λ t alike e. ap on (b.missing t alike e);
      mend = b.mend;
      value = f b.value;
      mended = λ t alike is. ap on (b.mended t alike is);
    })
  where
    on : Reading A → Reading B
    on x = and_then x (λ a e. got (f a) e)
made_ends {A = A} f X s at r p (inr b) =
    inr (record {
      leads = b.leads;
      value = f b.value;
      reads = λ t alike long. ap (λ (x : Reading A). and_then x (λ a e. got (f a) e)) (b.reads t alike long);
      more = λ t alike long. ap (λ (x : Reading A). and_then x (λ a e. got (f a) e)) (b.more t alike long);
      follow = b.follow;
    })

pub second-ends : {A B : Type 0} (X : List ℕ → Reading A) (f : A → ℕ → List ℕ → Reading B) (s : List ℕ) (at m : ℕ) (r : Refusal) (p : ℕ) (a : A) → X s ≡ got a m → Kept X s at m → Cut (f a m) s m r p ⊎ Long (f a m) s m r p
    → Cut (λ t. and_then (X t) (λ a e. f a e t)) s at r p ⊎ Long (λ t. and_then (X t) (λ a e. f a e t)) s at r p
second-ends X f s at m r p a e k (inl b) =
    inl (record {
      leads = leads-on k.leads b.leads;
      same = λ t alike q. both-alike X f s t at m p a e k (leads-le b.leads) alike ∙ b.same t alike q;
      missing = λ t alike q. both-alike X f s t at m p a e k (leads-le b.leads) alike ∙ b.missing t alike q;
      mend = b.mend;
      value = b.value;
      mended = λ t alike is. both-alike X f s t at m p a e k (leads-le b.leads) alike ∙ b.mended t alike is;
    })
second-ends X f s at m r p a e k (inr b) =
    inr (record {
      leads = leads-on k.leads b.leads;
      value = b.value;
      reads = λ t alike long. both-alike X f s t at m p a e k (leads-le b.leads) alike ∙ b.reads t alike long;
      more = λ t alike long. both-alike X f s t at m p a e k (leads-le b.leads) alike ∙ b.more t alike long;
      follow = b.follow;
    })
