-- What a reading of a form 2 term or header has read, number by number; it ends inside the roll.
use Prim.Native.Nat.{ℕ, zero, suc, ◌+◌, ◌-◌, ◌≤◌}
use mathlib.Core.Path.{◌≡◌, refl, sym}
use mathlib.Core.Bool.{Bool, true, false, cond}
use mathlib.Core.List.{List, [], ◌∷◌, ◌++◌}
use native.Mathlib.Omega.{arith}
use lib.ListN.{length, take, drop}
use Rattle.kind.specs.Limits.{most_scale, most_terms}
use Rattle.kind.specs.Kinds.{kind_of, number_of, orders_of, table_of, most_l, most_prefactors}
use Rattle.kind.specs.declared.Kind.{Kind}
use Rattle.kind.specs.declared.Kind.TheVariants.{Coulomb}
use Rattle.laws.proofs.Cases.{clash}
use Rattle.laws.specs.Total.{total}
use Rattle.term.specs.Terms.{Term}
use Rattle.roll.specs.Field as field
use Rattle.roll.specs.Reading.{Reading, got, refused, onward, and_then, before, within_at, most_boys, prefactors_at, orders_at, Header, of_kind}
use Rattle.roll.specs.Fits.{Below}
use Rattle.roll.proofs.FieldLaws.{Taken, taken}
use Rattle.roll.proofs.Filling.{before-is, onward-is, and_then-is}
use Rattle.roll.proofs.Inside.{taken-inside, prefactors-inside, kind-read, orders-most}
use Rattle.form2.specs.Bytes.{form_two}
use Rattle.form2.specs.Reading.{header_at2, Front, further_count_at, shared_at, boys_at2, front_at, goes_on, further_at, term_after}
use Rattle.form2.proofs.Sharing.{Parts}
use Rattle.kind.specs.declared.refusals.Refusal.TheVariants.{BadRoll}

-- ---- the front

pub record FrontRead (k : Kind) (l longest : ℕ) (s : List ℕ) (at : ℕ) (f : Front) (next : ℕ) : Type 0 where
  pub a : ℕ
  pub b : ℕ
  pub c : ℕ
  pub scale : Taken s at 1 most_scale f.scale a
  pub boys : Taken s a 0 (most_boys k l) f.boys b
  pub shared : Taken s b 0 longest f.shared c
  pub further : Taken s c 0 (most_prefactors k l - f.shared) f.further next

front-made : (k : Kind) (l longest : ℕ) (s : List ℕ) (at scale a boys b shared c further end : ℕ) (f : Front) (next : ℕ) → Taken s at 1 most_scale scale a → Taken s a 0 (most_boys k l) boys b → Taken s b 0 longest shared c → Taken s c 0 (most_prefactors k l - shared) further end → got (record { scale = scale; boys = boys; shared = shared; further = further }) end ≡ got f next → FrontRead k l longest s at f next
front-made k l longest s at scale a boys b shared c further end f next p q r t e =
    let made : record { scale = scale; boys = boys; shared = shared; further = further } ≡ f = cc in
    let ends : end ≡ next = cc in
    rw (← made, ← ends) (record { a = a; b = b; c = c; scale = p; boys = q; shared = r; further = t })

pub front_read : (k : Kind) (l longest : ℕ) (s : List ℕ) (at : ℕ) (f : Front) (next : ℕ) → front_at s at k l longest ≡ got f next → FrontRead k l longest s at f next
unfolding front_at boys_at2 shared_at further_count_at
front_read k l longest s at f next e =
    let x = onward-is (within_at s at 1 most_scale) (λ scale m. boys_at2 s m k l longest scale) f next e in
    let y = onward-is (within_at s x.1 0 (most_boys k l)) (λ boys m. shared_at s m k l longest x.0 boys) f next x.3 in
    let z = onward-is (within_at s y.1 0 longest) (λ shared m. further_count_at s m k l x.0 y.0 shared) f next y.3 in
    let w = onward-is (within_at s z.1 0 (most_prefactors k l - z.0)) (λ further m. got (record { scale = x.0; boys = y.0; shared = z.0; further = further }) m) f next z.3 in
    front-made k l longest s at x.0 x.1 y.0 y.1 z.0 z.1 w.0 w.1 f next
    (taken s at 1 most_scale (within_at s at 1 most_scale) x.0 x.1 refl x.2)
    (taken s x.1 0 (most_boys k l) (within_at s x.1 0 (most_boys k l)) y.0 y.1 refl y.2)
    (taken s y.1 0 longest (within_at s y.1 0 longest) z.0 z.1 refl z.2)
    (taken s z.1 0 (most_prefactors k l - z.0) (within_at s z.1 0 (most_prefactors k l - z.0)) w.0 w.1 refl w.2)
    w.3

pub front-inside : (k : Kind) (l longest : ℕ) (s : List ℕ) (at : ℕ) (f : Front) (next : ℕ) → front_at s at k l longest ≡ got f next → next ≤ length s
front-inside k l longest s at f next e =
    let r = front_read k l longest s at f next e in
    (taken-inside s r.c 0 (most_prefactors k l - f.shared) f.further next r.further).1

-- ---- the further prefactors: prefactors as form 1's, and the first is not the one that follows in the term before

pub further-read : (count table : ℕ) (follow : List ℕ) (s : List ℕ) (at : ℕ) (ps : List ℕ) (next : ℕ) → further_at s at count table follow ≡ got ps next → (prefactors_at s at count table ≡ got ps next) × Parts follow ps
unfolding further_at prefactors_at
further-read zero table follow s at ps next e = let none : [] ≡ ps = cc in (e, rw (← none) tt)
further-read (suc count) table follow s at ps next e =
    let x = onward-is (within_at s at 0 (table - 1)) (λ p n. cond (goes_on follow p) (refused BadRoll at) (before (p ∷ []) (prefactors_at s n count table))) ps next e in
    by x.0 x.1 x.2 (goes_on follow x.0) refl x.3
  where
    by : (p n : ℕ) → within_at s at 0 (table - 1) ≡ field.Is p n → (b : Bool) → goes_on follow p ≡ b → cond b (refused BadRoll at) (before (p ∷ []) (prefactors_at s n count table)) ≡ got ps next → (onward (within_at s at 0 (table - 1)) (λ p n. before (p ∷ []) (prefactors_at s n count table)) ≡ got ps next) × Parts follow ps
    by p n is true t e = absurd (clash (cc))
    by p n is false f e = let b = before-is p (prefactors_at s n count table) ps next e in (rw is e, rw b.2 f)

pub prefactors-below : (count table : ℕ) (s : List ℕ) (at : ℕ) (ps : List ℕ) (next : ℕ) → 1 ≤ table → prefactors_at s at count table ≡ got ps next → Below table ps
unfolding prefactors_at
prefactors-below zero table s at ps next some e = let none : [] ≡ ps = cc in rw (← none) tt
prefactors-below (suc count) table s at ps next some e =
    let x = onward-is (within_at s at 0 (table - 1)) (λ p n. before (p ∷ []) (prefactors_at s n count table)) ps next e in
    let b = before-is x.0 (prefactors_at s x.1 count table) ps next x.3 in
    let below = (taken s at 0 (table - 1) (within_at s at 0 (table - 1)) x.0 x.1 refl x.2).below in
    rw b.2 (omega arith, prefactors-below count table s x.1 b.0 next some b.1)

-- ---- a term

pub record TermRead2 (k : Kind) (l : ℕ) (earlier s : List ℕ) (at : ℕ) (t : Term) (next : ℕ) : Type 0 where
  pub front : Front
  pub place : ℕ
  pub further : List ℕ
  pub numbers : front_at s at k l (length earlier) ≡ got front place
  pub reads : further_at s place front.further (table_of k) (drop front.shared earlier) ≡ got further next
  pub is : t ≡ record { scale = front.scale; boys = front.boys; prefactors = take front.shared earlier ++ further }

pub term-read2 : (k : Kind) (l : ℕ) (earlier s : List ℕ) (at : ℕ) (t : Term) (next : ℕ) → term_after s at k l earlier ≡ got t next → TermRead2 k l earlier s at t next
unfolding term_after
term-read2 k l earlier s at t next e =
    let x = and_then-is (front_at s at k l (length earlier)) (λ f m. and_then (further_at s m f.further (table_of k) (drop f.shared earlier)) (made f)) t next e in
    let f = x.0 in
    let y = and_then-is (further_at s x.1 f.further (table_of k) (drop f.shared earlier)) (made f) t next x.3 in
    let end : y.1 ≡ next = cc y.3 in
    let term : record { scale = f.scale; boys = f.boys; prefactors = take f.shared earlier ++ y.0 } ≡ t = cc y.3 in
    record { front = f; place = x.1; further = y.0; numbers = x.2; reads = rw end at y.2; is = sym term }
  where
    made : Front → List ℕ → ℕ → Reading Term
    made f ps end = got (record { scale = f.scale; boys = f.boys; prefactors = take f.shared earlier ++ ps }) end

pub term-inside2 : (k : Kind) (l : ℕ) (earlier s : List ℕ) (at : ℕ) (t : Term) (next : ℕ) → term_after s at k l earlier ≡ got t next → next ≤ length s
term-inside2 k l earlier s at t next e =
    let r = term-read2 k l earlier s at t next e in
    let f = r.front in
    prefactors-inside f.further (table_of k) s r.place r.further next (front-inside k l (length earlier) s at f r.place r.numbers)
    (further-read f.further (table_of k) (drop f.shared earlier) s r.place r.further next r.reads).0

-- ---- the header

pub record HeaderRead2 (s : List ℕ) (h : Header) (next : ℕ) : Type 0 where
  pub a : ℕ
  pub b : ℕ
  pub kind : Taken s 0 form_two (form_two + number_of Coulomb) (form_two + number_of h.kind) a
  pub orders : orders_at s a (orders_of h.kind) 0 0 ≡ got h.orders b
  pub terms : Taken s b 1 most_terms h.terms next

pub header-read2 : (s : List ℕ) (h : Header) (next : ℕ) → header_at2 s ≡ got h next → HeaderRead2 s h next
unfolding header_at2
header-read2 s h next e =
    let x = onward-is (within_at s 0 form_two (form_two + number_of Coulomb)) (λ n m. of_kind s m (kind_of (n - form_two))) h next e in
    let k = kind-read (kind_of (x.0 - form_two)) (x.0 - form_two) s x.1 h next refl x.3 in
    let t = taken s 0 form_two (form_two + number_of Coulomb) (within_at s 0 form_two (form_two + number_of Coulomb)) x.0 x.1 refl x.2 in
    let low = t.above in
    let same : x.0 ≡ form_two + number_of h.kind = omega (arith, k.0) in
    record {
      a = x.1;
      b = k.1.0;
      kind = rw same at t;
      orders = k.1.1;
      terms = k.1.2;
    }

pub header-inside2 : (s : List ℕ) (h : Header) (next : ℕ) → header_at2 s ≡ got h next → next ≤ length s
header-inside2 s h next e = let r = header-read2 s h next e in (taken-inside s r.b 1 most_terms h.terms next r.terms).1

pub header-most2 : (s : List ℕ) (h : Header) (next : ℕ) → header_at2 s ≡ got h next → total h.orders ≤ most_l h.kind
header-most2 s h next e = let r = header-read2 s h next e in orders-most h.kind s r.a h.orders r.b r.orders
