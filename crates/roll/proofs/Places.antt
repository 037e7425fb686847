-- The place of a refusal (specs/Places.antt): each part of a roll is kept where it reads, and broken where it is refused (proofs/Mending.antt); and no second place fits.
use Prim.Native.Nat.{ℕ, zero, suc, zero-le, ◌+◌, ◌-◌, ◌≤◌, ◌<◌}
use mathlib.Core.Path.{◌≡◌, refl, sym, ap, ◌∙◌}
use mathlib.Core.Bool.{Bool, true, false, cond}
use mathlib.Core.List.{List, [], ◌∷◌, ◌++◌, append_assoc}
use mathlib.Core.Logic.{◌⊎◌, inl, inr}
use native.Mathlib.Omega.{arith}
use borrow.Author.Tests.{eq-eqb, ne_eqb, eqb-false}
use lib.Dec.{eqb}
use lib.ListN.{length, take, drop, replicate, length-take, length-drop, length-append, length-replicate, take-append-drop}
use lib.Seq.{length-take-le, take-take, take_at, drop_at}
use Rattle.kind.specs.Limits.{most_order, most_scale, most_terms}
use Rattle.kind.specs.Kinds.{kind_of, number_of, orders_of, table_of, most_l, most_prefactors}
use Rattle.kind.specs.declared.Kind.{Kind}
use Rattle.kind.specs.declared.Kind.TheVariants.{Overlap, Coulomb}
use Rattle.laws.proofs.Pairs.{ok-both}
use Rattle.laws.proofs.Cases.{clash}
use Rattle.laws.proofs.Lists.{take_less}
use Rattle.laws.specs.Total.{total}
use Rattle.number.specs.Read as number
use Rattle.number.specs.Numbers.{higher, read_from, read_at}
use Rattle.number.proofs.Reading.{read-ended, read-inside, read_alike}
use Rattle.term.specs.Terms.{Term}
use Rattle.roll.specs.Bytes.{terms_bytes}
use Rattle.roll.specs.Reading.{Reading, got, refused, within_at, and_then, before, prefactors_at, most_boys, count_at, boys_at, term_at, terms_at, sum_after, orders_at, Header, counted_at, of_kind, header_at, Roll, roll_at}
use Rattle.roll.specs.Fits.{TermsFit}
use Rattle.roll.specs.Places.{Leads, here, over, FaultAt, number-there, byte-there}
use Rattle.roll.proofs.FieldLaws.{taken}
use Rattle.roll.proofs.Filling.{and_then-is}
use Rattle.roll.proofs.Inside.{term-inside, header_read, header-inside, orders-most}
use Rattle.roll.proofs.Back.{terms-back}
use Rattle.roll.proofs.Mending.{Alike, leads-le, leads-inside, Kept, Broken, SomeBytes, kept-made, broken-made, some-made, some-field, kept-onward, broken-onward, kept_second, broken-first, broken-second, made_got, made-refused, kept-got, some-got, Cut, Long, made_ends, second-ends}
use Rattle.std.specs.Prelude.{Option, Some, None}
use Rattle.kind.specs.declared.refusals.Refusal.{Refusal}
use Rattle.kind.specs.declared.refusals.Refusal.TheVariants.{BadRoll}

-- ---- a term

pub prefactors-kept : (count table : ℕ) (s : List ℕ) (at : ℕ) (ps : List ℕ) (end : ℕ) → prefactors_at s at count table ≡ got ps end → Kept (λ t. prefactors_at t at count table) s at end
unfolding prefactors_at
prefactors-kept zero table s at ps end e = kept-got [] ps s at end e
prefactors-kept (suc count) table s at ps end e =
    kept-onward (λ p next t. before (p ∷ []) (prefactors_at t next count table)) s at 0 (table - 1) end ps
    (λ p next is e. kept-made (λ qs. (p ∷ []) ++ qs) (λ t. prefactors_at t next count table) s next end
    (let m = made_got (λ qs. (p ∷ []) ++ qs) (prefactors_at s next count table) ps end e in prefactors-kept count table s next m.0 end m.1)) e

pub prefactors-some : (count table : ℕ) → SomeBytes (λ at t. prefactors_at t at count table)
unfolding prefactors_at
prefactors-some zero table = some-got []
prefactors-some (suc count) table =
    some-field (λ p next t. before (p ∷ []) (prefactors_at t next count table)) 0 (table - 1) (omega arith) zero-le
    (some-made (λ qs. (0 ∷ []) ++ qs) (λ at t. prefactors_at t at count table) (prefactors-some count table))

pub prefactors-broken : (count table : ℕ) (s : List ℕ) (at : ℕ) (r : Refusal) (p : ℕ) → prefactors_at s at count table ≡ refused r p → Broken (λ t. prefactors_at t at count table) s at r p
unfolding prefactors_at
prefactors-broken zero table s at r p e = absurd (clash (cc))
prefactors-broken (suc count) table s at r p e =
    broken-onward (λ q next t. before (q ∷ []) (prefactors_at t next count table)) s at 0 (table - 1) r p (omega arith) zero-le
    (some-made (λ qs. (0 ∷ []) ++ qs) (λ at t. prefactors_at t at count table) (prefactors-some count table))
    (λ q next is e. broken-made (λ qs. (q ∷ []) ++ qs) (λ t. prefactors_at t next count table) s next r p
    (prefactors-broken count table s next r p (made-refused (λ qs. (q ∷ []) ++ qs) (prefactors_at s next count table) r p e))) e

count_kept : (k : Kind) (l scale boys : ℕ) (s : List ℕ) (at : ℕ) (u : Term) (end : ℕ) → count_at s at k l scale boys ≡ got u end → Kept (λ t. count_at t at k l scale boys) s at end
unfolding count_at
count_kept k l scale boys s at u end e =
    kept-onward (λ count next t. and_then (prefactors_at t next count (table_of k)) (λ ps m. got (record { scale = scale; boys = boys; prefactors = ps }) m)) s at 0 (most_prefactors k l) end u
    (λ count next is e. kept-made (λ ps. record { scale = scale; boys = boys; prefactors = ps }) (λ t. prefactors_at t next count (table_of k)) s next end
    (let m = made_got (λ ps. record { scale = scale; boys = boys; prefactors = ps }) (prefactors_at s next count (table_of k)) u end e in prefactors-kept count (table_of k) s next m.0 end m.1)) e

count-some : (k : Kind) (l scale boys : ℕ) → SomeBytes (λ at t. count_at t at k l scale boys)
unfolding count_at
count-some k l scale boys =
    some-field (λ count next t. and_then (prefactors_at t next count (table_of k)) (λ ps m. got (record { scale = scale; boys = boys; prefactors = ps }) m)) 0 (most_prefactors k l) (omega arith) zero-le
    (some-made (λ ps. record { scale = scale; boys = boys; prefactors = ps }) (λ at t. prefactors_at t at 0 (table_of k)) (prefactors-some 0 (table_of k)))

count-broken : (k : Kind) (l scale boys : ℕ) (s : List ℕ) (at : ℕ) (r : Refusal) (p : ℕ) → count_at s at k l scale boys ≡ refused r p → Broken (λ t. count_at t at k l scale boys) s at r p
unfolding count_at
count-broken k l scale boys s at r p e =
    broken-onward (λ count next t. and_then (prefactors_at t next count (table_of k)) (λ ps m. got (record { scale = scale; boys = boys; prefactors = ps }) m)) s at 0 (most_prefactors k l) r p (omega arith) zero-le
    (some-made (λ ps. record { scale = scale; boys = boys; prefactors = ps }) (λ at t. prefactors_at t at 0 (table_of k)) (prefactors-some 0 (table_of k)))
    (λ count next is e. broken-made (λ ps. record { scale = scale; boys = boys; prefactors = ps }) (λ t. prefactors_at t next count (table_of k)) s next r p
    (prefactors-broken count (table_of k) s next r p (made-refused (λ ps. record { scale = scale; boys = boys; prefactors = ps }) (prefactors_at s next count (table_of k)) r p e))) e

boys-kept : (k : Kind) (l scale : ℕ) (s : List ℕ) (at : ℕ) (u : Term) (end : ℕ) → boys_at s at k l scale ≡ got u end → Kept (λ t. boys_at t at k l scale) s at end
unfolding boys_at
boys-kept k l scale s at u end e = kept-onward (λ boys next t. count_at t next k l scale boys) s at 0 (most_boys k l) end u (λ boys next is e. count_kept k l scale boys s next u end e) e

boys-some : (k : Kind) (l scale : ℕ) → SomeBytes (λ at t. boys_at t at k l scale)
unfolding boys_at
boys-some k l scale = some-field (λ boys next t. count_at t next k l scale boys) 0 (most_boys k l) (omega arith) zero-le (count-some k l scale 0)

boys-broken : (k : Kind) (l scale : ℕ) (s : List ℕ) (at : ℕ) (r : Refusal) (p : ℕ) → boys_at s at k l scale ≡ refused r p → Broken (λ t. boys_at t at k l scale) s at r p
unfolding boys_at
boys-broken k l scale s at r p e =
    broken-onward (λ boys next t. count_at t next k l scale boys) s at 0 (most_boys k l) r p (omega arith) zero-le (count-some k l scale 0)
    (λ boys next is e. count-broken k l scale boys s next r p e) e

pub term-kept : (k : Kind) (l : ℕ) (s : List ℕ) (at : ℕ) (u : Term) (end : ℕ) → term_at s at k l ≡ got u end → Kept (λ t. term_at t at k l) s at end
unfolding term_at
term-kept k l s at u end e = kept-onward (λ scale next t. boys_at t next k l scale) s at 1 most_scale end u (λ scale next is e. boys-kept k l scale s next u end e) e

term-broken : (k : Kind) (l : ℕ) (s : List ℕ) (at : ℕ) (r : Refusal) (p : ℕ) → term_at s at k l ≡ refused r p → Broken (λ t. term_at t at k l) s at r p
unfolding term_at
term-broken k l s at r p e =
    broken-onward (λ scale next t. boys_at t next k l scale) s at 1 most_scale r p (omega arith) (omega arith) (boys-some k l 1)
    (λ scale next is e. boys-broken k l scale s next r p e) e

-- ---- the header

orders-kept : (n i sum : ℕ) (s : List ℕ) (at : ℕ) (os : List ℕ) (end : ℕ) → orders_at s at n i sum ≡ got os end → Kept (λ t. orders_at t at n i sum) s at end
unfolding orders_at
orders-kept zero i sum s at os end e = kept-got [] os s at end e
orders-kept (suc n) i sum s at os end e =
    kept-onward (λ o next t. before (o ∷ []) (orders_at t next n (i + 1) (sum_after i sum o))) s at 0 (most_order - sum) end os
    (λ o next is e. kept-made (λ qs. (o ∷ []) ++ qs) (λ t. orders_at t next n (i + 1) (sum_after i sum o)) s next end
    (let m = made_got (λ qs. (o ∷ []) ++ qs) (orders_at s next n (i + 1) (sum_after i sum o)) os end e in orders-kept n (i + 1) (sum_after i sum o) s next m.0 end m.1)) e

orders-some : (n i sum : ℕ) → SomeBytes (λ at t. orders_at t at n i sum)
unfolding orders_at
orders-some zero i sum = some-got []
orders-some (suc n) i sum =
    some-field (λ o next t. before (o ∷ []) (orders_at t next n (i + 1) (sum_after i sum o))) 0 (most_order - sum) (omega arith) zero-le
    (some-made (λ qs. (0 ∷ []) ++ qs) (λ at t. orders_at t at n (i + 1) (sum_after i sum 0)) (orders-some n (i + 1) (sum_after i sum 0)))

orders-broken : (n i sum : ℕ) (s : List ℕ) (at : ℕ) (r : Refusal) (p : ℕ) → orders_at s at n i sum ≡ refused r p → Broken (λ t. orders_at t at n i sum) s at r p
unfolding orders_at
orders-broken zero i sum s at r p e = absurd (clash (cc))
orders-broken (suc n) i sum s at r p e =
    broken-onward (λ o next t. before (o ∷ []) (orders_at t next n (i + 1) (sum_after i sum o))) s at 0 (most_order - sum) r p (omega arith) zero-le
    (some-made (λ qs. (0 ∷ []) ++ qs) (λ at t. orders_at t at n (i + 1) (sum_after i sum 0)) (orders-some n (i + 1) (sum_after i sum 0)))
    (λ o next is e. broken-made (λ qs. (o ∷ []) ++ qs) (λ t. orders_at t next n (i + 1) (sum_after i sum o)) s next r p
    (orders-broken n (i + 1) (sum_after i sum o) s next r p (made-refused (λ qs. (o ∷ []) ++ qs) (orders_at s next n (i + 1) (sum_after i sum o)) r p e))) e

counted-kept : (k : Kind) (os : List ℕ) (s : List ℕ) (at : ℕ) (h : Header) (end : ℕ) → counted_at s at k os ≡ got h end → Kept (λ t. counted_at t at k os) s at end
unfolding counted_at
counted-kept k os s at h end e =
    kept-onward (λ count next t. got (record { kind = k; orders = os; terms = count }) next) s at 1 most_terms end h
    (λ count next is e. kept-got (record { kind = k; orders = os; terms = count }) h s next end e) e

counted-some : (k : Kind) (os : List ℕ) → SomeBytes (λ at t. counted_at t at k os)
unfolding counted_at
counted-some k os = some-field (λ count next t. got (record { kind = k; orders = os; terms = count }) next) 1 most_terms (omega arith) (omega arith) (some-got (record { kind = k; orders = os; terms = 1 }))

counted-broken : (k : Kind) (os : List ℕ) (s : List ℕ) (at : ℕ) (r : Refusal) (p : ℕ) → counted_at s at k os ≡ refused r p → Broken (λ t. counted_at t at k os) s at r p
unfolding counted_at
counted-broken k os s at r p e =
    broken-onward (λ count next t. got (record { kind = k; orders = os; terms = count }) next) s at 1 most_terms r p (omega arith) (omega arith) (some-got (record { kind = k; orders = os; terms = 1 }))
    (λ count next is e. absurd (clash (cc))) e

pub kind-kept : (m : Option Kind) (s : List ℕ) (at : ℕ) (h : Header) (end : ℕ) → of_kind s at m ≡ got h end → Kept (λ t. of_kind t at m) s at end
kind-kept (Some k) s at h end e =
    let x = and_then-is (orders_at s at (orders_of k) 0 0) (λ orders next. counted_at s next k orders) h end e in
    kept_second (λ t. orders_at t at (orders_of k) 0 0) (λ os next t. counted_at t next k os) s at x.1 end x.0 x.2
    (orders-kept (orders_of k) 0 0 s at x.0 x.1 x.2) (counted-kept k x.0 s x.1 h end x.3)
kind-kept None s at h end e = absurd (clash (cc))

pub kind-some : (k : Kind) → SomeBytes (λ at t. of_kind t at (Some k))
kind-some k =
    let os = orders-some (orders_of k) 0 0 in
    let c = counted-some k os.value in
    record {
      bytes = os.bytes ++ c.bytes;
      value = c.value;
      reads = λ t rest at is.
          let o = os.reads t (c.bytes ++ rest) at (is ∙ append_assoc os.bytes c.bytes rest) in
          let n = c.reads t rest o.0 o.2 in
          (n.0, ap (λ (x : Reading (List ℕ)). and_then x (λ orders next. counted_at t next k orders)) o.1 ∙ n.1, n.2);
    }

pub kind-broken : (m : Option Kind) (s : List ℕ) (at : ℕ) (r : Refusal) (p : ℕ) → (m ≡ None → ⊥) → of_kind s at m ≡ refused r p → Broken (λ t. of_kind t at m) s at r p
kind-broken (Some k) s at r p known e = by (orders_at s at (orders_of k) 0 0) refl e
  where
    by : (x : Reading (List ℕ)) → orders_at s at (orders_of k) 0 0 ≡ x → and_then x (λ orders next. counted_at s next k orders) ≡ refused r p → Broken (λ t. of_kind t at (Some k)) s at r p
    by (got os next) is e =
        broken-second (λ t. orders_at t at (orders_of k) 0 0) (λ os next t. counted_at t next k os) s at next r p os is (orders-kept (orders_of k) 0 0 s at os next is) (counted-broken k os s next r p e)
    by (refused q o) is e =
        let number : q ≡ r = cc in
        let there : o ≡ p = cc in
        broken-first (λ t. orders_at t at (orders_of k) 0 0) (λ os next t. counted_at t next k os) s at r p (λ os. counted-some k os) (orders-broken (orders_of k) 0 0 s at r p (rw (number, there) at is))
kind-broken None s at r p known e = absurd (known refl)

-- every number up to the last kind's is a kind
pub known : (n : ℕ) → n ≤ number_of Coulomb → kind_of n ≡ None → ⊥
known zero most e = clash (cc)
known (suc zero) most e = clash (cc)
known (suc (suc zero)) most e = clash (cc)
known (suc (suc (suc zero))) most e = clash (cc)
known (suc (suc (suc (suc zero)))) most e = clash (cc)
known (suc (suc (suc (suc (suc n))))) most e = omega (arith, most)

pub header-kept : (s : List ℕ) (h : Header) (end : ℕ) → header_at s ≡ got h end → Kept header_at s 0 end
unfolding header_at
header-kept s h end e = kept-onward (λ n next t. of_kind t next (kind_of n)) s 0 0 (number_of Coulomb) end h (λ n next is e. kind-kept (kind_of n) s next h end e) e

pub header-broken : (s : List ℕ) (r : Refusal) (p : ℕ) → header_at s ≡ refused r p → Broken header_at s 0 r p
unfolding header_at
header-broken s r p e =
    broken-onward (λ n next t. of_kind t next (kind_of n)) s 0 0 (number_of Coulomb) r p (omega arith) zero-le (kind-some Overlap)
    (λ n next is e. kind-broken (kind_of n) s next r p (known n (taken s 0 0 (number_of Coulomb) (within_at s 0 0 (number_of Coulomb)) n next refl is).below) e) e

-- ---- the terms

-- a term that can always follow, and as many of it as are missing
abbrev plain : Term
plain = record { scale = 1; boys = 0; prefactors = [] }

plain_fits : (k : Kind) (l n : ℕ) → TermsFit k l (replicate n plain)
plain_fits k l zero = tt
plain_fits k l (suc n) = (record { scale-least = omega arith; scale = omega arith; boys = zero-le; count = zero-le; prefactors = tt }, plain_fits k l n)

plain-terms : (k : Kind) (l n : ℕ) (t : List ℕ) (at : ℕ) → l ≤ most_l k → at ≤ length t → drop at t ≡ terms_bytes (replicate n plain) → terms_at t at n k l ≡ got (replicate n plain) (length t)
plain-terms k l n t at small inside is = rw (length-replicate n plain) at (terms-back k l (replicate n plain) t at small inside (plain_fits k l n) is)

terms-end : (left : ℕ) (k : Kind) (l : ℕ) (s : List ℕ) (at : ℕ) (r : Refusal) (p : ℕ) → l ≤ most_l k → terms_at s at left k l ≡ refused r p → Cut (λ t. terms_at t at left k l) s at r p ⊎ Long (λ t. terms_at t at left k l) s at r p
unfolding terms_at
terms-end zero k l s at r p small e = by (eqb at (length s)) refl e
  where
    by : (b : Bool) → eqb at (length s) ≡ b → cond {A = Reading (List Term)} b (got [] at) (refused BadRoll at) ≡ refused r p → Cut (λ t. terms_at t at zero k l) s at r p ⊎ Long (λ t. terms_at t at zero k l) s at r p
    by true t e = absurd (clash (cc))
    by false f e =
        let there : at ≡ p = cc in
        let number : BadRoll ≡ r = cc in
        rw (← there, ← number)
        (inr (record {
          leads = here;
          value = [];
          reads = λ t alike long. simp (eq-eqb at (length t) (sym long));
          more = λ t alike long. simp (ne_eqb at (length t) long);
          follow = eqb-false at (length s) f;
        }))
terms-end (suc left) k l s at r p small e = by (term_at s at k l) refl e (λ next. terms-end left k l s next r p small)
  where
    X : List ℕ → Reading (List Term)
    X t = and_then (term_at t at k l) (λ u next. before (u ∷ []) (terms_at t next left k l))

    by : (x : Reading Term) → term_at s at k l ≡ x → and_then x (λ u next. before (u ∷ []) (terms_at s next left k l)) ≡ refused r p
        → ((next : ℕ) → terms_at s next left k l ≡ refused r p → Cut (λ t. terms_at t next left k l) s next r p ⊎ Long (λ t. terms_at t next left k l) s next r p)
        → Cut X s at r p ⊎ Long X s at r p
    by (got u next) is e rest =
        second-ends (λ t. term_at t at k l) (λ u next t. before (u ∷ []) (terms_at t next left k l)) s at next r p u is (term-kept k l s at u next is)
        (made_ends (λ us. (u ∷ []) ++ us) (λ t. terms_at t next left k l) s next r p (rest next (made-refused (λ us. (u ∷ []) ++ us) (terms_at s next left k l) r p e)))
    by (refused q o) is e rest =
        let number : q ≡ r = cc in
        let there : o ≡ p = cc in
        let b = term-broken k l s at r p (rw (number, there) at is) in
        inl (record {
          leads = b.leads;
          same = λ t alike e. ap (λ (x : Reading Term). and_then x (λ u next. before (u ∷ []) (terms_at t next left k l))) (b.same t alike e);
          missing = λ t alike e. ap (λ (x : Reading Term). and_then x (λ u next. before (u ∷ []) (terms_at t next left k l))) (b.missing t alike e);
          mend = b.mend ++ terms_bytes (replicate left plain);
          value = (b.value ∷ []) ++ replicate left plain;
          mended = λ t alike is.
              let m = b.mended t (terms_bytes (replicate left plain)) alike is in
              ap (λ (x : Reading Term). and_then x (λ u next. before (u ∷ []) (terms_at t next left k l))) m.1
              ∙ ap (before (b.value ∷ [])) (plain-terms k l left t m.0 small (term-inside k l t at b.value m.0 m.1) m.2);
        })

-- ---- the roll

pub roll-end : (s : List ℕ) (r : Refusal) (p : ℕ) → roll_at s ≡ refused r p → Cut roll_at s 0 r p ⊎ Long roll_at s 0 r p
unfolding roll_at
roll-end s r p e = by (header_at s) refl e
  where
    made : Header → List Term → Roll
    made h ts = record { kind = h.kind; orders = h.orders; terms = ts }

    terms : List ℕ → Header → ℕ → Reading Roll
    terms t h next = and_then (terms_at t next h.terms h.kind (total h.orders)) (λ ts end. got (record { kind = h.kind; orders = h.orders; terms = ts }) end)

    small : (t : List ℕ) (h : Header) (next : ℕ) → header_at t ≡ got h next → total h.orders ≤ most_l h.kind
    small t h next e = let hr = header_read t h next e in orders-most h.kind t hr.a h.orders hr.b hr.orders

    by : (x : Reading Header) → header_at s ≡ x → and_then x (terms s) ≡ refused r p → Cut roll_at s 0 r p ⊎ Long roll_at s 0 r p
    by (got h next) is e =
        second-ends header_at (λ h next t. terms t h next) s 0 next r p h is (header-kept s h next is)
        (made_ends (made h) (λ t. terms_at t next h.terms h.kind (total h.orders)) s next r p
        (terms-end h.terms h.kind (total h.orders) s next r p (small s h next is) (made-refused (made h) (terms_at s next h.terms h.kind (total h.orders)) r p e)))
    by (refused q o) is e =
        let number : q ≡ r = cc in
        let there : o ≡ p = cc in
        let b = header-broken s r p (rw (number, there) at is) in
        let h = b.value in
        inl (record {
          leads = b.leads;
          same = λ t alike e. ap (λ (x : Reading Header). and_then x (terms t)) (b.same t alike e);
          missing = λ t alike e. ap (λ (x : Reading Header). and_then x (terms t)) (b.missing t alike e);
          mend = b.mend ++ terms_bytes (replicate h.terms plain);
          value = made h (replicate h.terms plain);
          mended = λ t alike is.
              let m = b.mended t (terms_bytes (replicate h.terms plain)) alike is in
              ap (λ (x : Reading Header). and_then x (terms t)) m.1
              ∙ ap (λ (x : Reading (List Term)). and_then x (λ ts end. got (made h ts) end)) (plain-terms h.kind (total h.orders) h.terms t m.0 (small t h m.0 m.1) (header-inside t h m.0 (header_read t h m.0 m.1)) m.2);
        })

-- everything before the place of a refusal is in order, and the fault begins there
pub place-of-refusal : (s : List ℕ) (r : Refusal) (p : ℕ) → roll_at s ≡ refused r p → FaultAt s r p
place-of-refusal s r p e = by (roll-end s r p e)
  where
    again : take p (take p s) ≡ take p s
    again = take-take p p s (omega arith)

    by : Cut roll_at s 0 r p ⊎ Long roll_at s 0 r p → FaultAt s r p
    by (inl b) =
        let inside : p ≤ length s = leads-inside zero-le b.leads in
        let long : length (take p s) ≡ p = length-take-le p s inside in
        number-there (record {
          inside = inside;
          begins = b.leads;
          before = record {
            rest = b.mend;
            roll = b.value;
            end = length (take p s ++ b.mend);
            reads = b.mended (take p s ++ b.mend) (take_at (take p s) b.mend p long) (drop_at (take p s) b.mend p long);
          };
          missing = b.missing (take p s) again (sym (read-ended (take p s) p (omega arith)));
          wrong = λ rest q. b.same (take p s ++ rest) (take_at (take p s) rest p long) q;
        })
    by (inr b) =
        let inside : p ≤ length s = leads-inside zero-le b.leads in
        let follow = b.follow in
        let long : length (take p s) ≡ p = length-take-le p s inside in
        byte-there (record {
          inside = by_order inside follow;
          begins = b.leads;
          roll = b.value;
          before = b.reads (take p s) again long;
          wrong = λ rest some. b.more (take p s ++ rest) (take_at (take p s) rest p long) (λ end. omega (arith, long, some, length-append (take p s) rest));
        })
      where
        by_order : p ≤ length s → (p ≡ length s → ⊥) → p < length s
        by_order le ne = omega arith

pub place_inside : (s : List ℕ) (r : Refusal) (p : ℕ) → roll_at s ≡ refused r p → p ≤ length s
place_inside s r p e = by (place-of-refusal s r p e)
  where
    by : FaultAt s r p → p ≤ length s
    by (number-there w) = w.inside
    by (byte-there w) = let inside = w.inside in omega arith

-- 01, "Cases": roll bytes 80 00 are 7 at 0
pub eighty-and-nothing : roll_at (0x80 ∷ 0x00 ∷ []) ≡ refused BadRoll 0
unfolding roll_at header_at within_at read_at read_from higher
eighty-and-nothing = refl

-- ---- no second place fits

-- of two places that numbers lead to, a number stands whole between the first and the second
leads-next : {s : List ℕ} {at p o : ℕ} → Leads s at p → Leads s at o → p < o → (n : ℕ) × (next : ℕ) × (read_at s p ≡ number.Is n next) × (next ≤ o)
leads-next here here less = absurd (omega (arith, less))
leads-next here (over {at} {n} {next} e rest) less = (n, next, e, leads-le rest)
leads-next {s = s} (over {at} {n} {next} e rest) here less = absurd (omega (arith, less, leads-le rest, (read-inside s at n next e).0))
leads-next (over {next = next} e p) (over {next = after} e' q) less = let same : after ≡ next = (ok-both (sym e' ∙ e)).1 in leads-next p (rw same at q) less

-- bytes that are alike up to a later place do not read
none-later : (s t : List ℕ) (r : Refusal) (p o : ℕ) (roll : Roll) (end : ℕ) → FaultAt s r p → Leads s 0 o → p < o → Alike o s t → roll_at t ≡ got roll end → ⊥
none-later s t r p o roll end (number-there w) leads less alike reads =
    let n = leads-next w.begins leads less in
    let read : read_at t p ≡ read_at s p = read_alike s t p n.0 n.1 n.2 (take_less s t n.1 o n.3 alike) ∙ sym n.2 in
    let whole : take p s ++ drop p t ≡ t = ap (λ (l : List ℕ). l ++ drop p t) (sym (take_less s t p o (omega arith) alike)) ∙ take-append-drop p t in
    let wrong : roll_at t ≡ refused r p = rw whole at (w.wrong (drop p t) (rw whole read)) in
    clash (cc)
none-later s t r p o roll end (byte-there w) leads less alike reads =
    let whole : take p s ++ drop p t ≡ t = ap (λ (l : List ℕ). l ++ drop p t) (sym (take_less s t p o (omega arith) alike)) ∙ take-append-drop p t in
    let inside : o ≤ length s = leads-inside zero-le leads in
    let long : 0 < length (drop p t) = omega (arith, length-drop p t, ap length alike, length-take o t, length-take o s) in
    let wrong : roll_at t ≡ refused r p = rw whole at (w.wrong (drop p t) long) in
    clash (cc)

-- bytes that read, and are alike up to the place
record Reads (s : List ℕ) (p : ℕ) : Type 0 where
  pub leads : Leads s 0 p
  pub bytes : List ℕ
  pub alike : Alike p s bytes
  pub roll : Roll
  pub end : ℕ
  pub reads : roll_at bytes ≡ got roll end

reads_before : (s : List ℕ) (r : Refusal) (p : ℕ) → FaultAt s r p → Reads s p
reads_before s r p (number-there w) =
    let b = w.before in
    record { leads = w.begins; bytes = take p s ++ b.rest; alike = take_at (take p s) b.rest p (length-take-le p s w.inside); roll = b.roll; end = b.end; reads = b.reads }
reads_before s r p (byte-there w) = record { leads = w.begins; bytes = take p s; alike = take-take p p s (omega arith); roll = w.roll; end = p; reads = w.before }

not-later : (s : List ℕ) (r q : Refusal) (p o : ℕ) → FaultAt s r p → FaultAt s q o → p < o → ⊥
not-later s r q p o a b less = let g = reads_before s q o b in none-later s g.bytes r p o g.roll g.end a g.leads less g.alike g.reads

pub place-only : (s : List ℕ) (r q : Refusal) (p o : ℕ) → FaultAt s r p → FaultAt s q o → p ≡ o
place-only s r q p o a b =
    let first = not-later s r q p o a b in
    let second = not-later s q r o p b a in
    omega arith
