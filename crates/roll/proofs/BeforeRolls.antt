-- 02, Q-6: old rolls read as they did, and what an old cabinet says of a roll that keeps our limits (specs/Before.antt).
-- A roll's writing is read under any limits: its orders have a byte each, its count and terms follow, and the first number above its limit is refused where it begins.
use Prim.Native.Nat.{ℕ, zero, suc, zero-le, ◌+◌, ◌-◌, ◌%◌, ◌^◌, ◌≤◌, ◌<◌}
use mathlib.Core.Path.{◌≡◌, refl, sym, ap, ◌∙◌}
use mathlib.Core.Bool.{Bool, true, false, cond, ◌||◌}
use mathlib.Core.List.{List, [], ◌∷◌, ◌++◌, append_assoc}
use mathlib.Core.Logic.{◌⊎◌, inl, inr}
use native.Mathlib.Omega.{arith}
use borrow.Author.Tests.{eq-eqb, ne_eqb, ltb-true, ltb-false}
use lib.Dec.{ltb, eqb}
use lib.ListN.{length, get_or, drop, take, length-drop, length-append}
use Rattle.laws.proofs.Pairs.{ok-both}
use Rattle.laws.proofs.Cases.{clash, tested}
use Rattle.laws.proofs.Lists.{drop-after}
use Rattle.laws.specs.Total.{total}
use Rattle.kind.specs.Limits.{most_order, most_scale}
use Rattle.kind.specs.Kinds.{kind_of, number_of, orders_of, most_l}
use Rattle.kind.specs.declared.Kind.{Kind}
use Rattle.kind.specs.declared.Kind.TheVariants.{Coulomb}
use Rattle.kind.proofs.KindNumber.{kind-number}
use Rattle.kind.proofs.Within.{number-within}
use Rattle.number.specs.Read as number
use Rattle.number.specs.Numbers.{group, bytes_of, length_of, higher, read_from, read_at, Bytes}
use Rattle.number.proofs.Laws.{reads-back-from}
use Rattle.number.proofs.Writing.{length_last}
use Rattle.number.proofs.Reading.{read-inside}
use Rattle.term.specs.Terms.{Term, held}
use Rattle.roll.specs.Field.{Field}
use Rattle.roll.specs.Field as field
use Rattle.roll.specs.declared.cursor.Cursor.{Cursor}
use Rattle.roll.specs.declared.cursor.Step.{Step}
use Rattle.roll.specs.Bytes.{numbers_bytes, term_bytes, terms_bytes, roll_bytes}
use Rattle.roll.specs.Reading.{Reading, got, refused, within_at, onward, and_then, sum_after, orders_at, counted_at, Header, header_at, prefactors_at, count_at, boys_at, term_at, terms_at, Roll, roll_at}
use Rattle.roll.specs.Fits.{CentresFit, Below, TermsFit, RollFits}
use Rattle.roll.specs.Header.{refused_opened, held_header, open_of, judged, check_of, refusal_of}
use Rattle.roll.specs.Cursor.{Stepped, refused_step, end_step, stepped, step_as, step_of}
use Rattle.roll.specs.Before.{ReaderLimits, limits_before, limits_now, orders_under, counted_under, of_kind_under, header_under, term_under, terms_under, roll_under, open_under, checked_under, check_under, most_l_under, step_as_under, next_under, NoneAbove, FirstAbove, centre_sums, scales, Keeps, writing, OldRolls, RefusedAt, OldCabinet, OldCases}
use Rattle.roll.proofs.FieldLaws.{within-is, within-high, taken}
use Rattle.roll.proofs.Filling.{onward-is}
use Rattle.roll.proofs.Inside.{term-read, term-inside, header_read, orders-most}
use Rattle.roll.proofs.Back.{term-back, terms-back, roll-back}
use Rattle.roll.proofs.Written.{roll-read}
use Rattle.roll.proofs.Checked.{headed, reads-checked}
use Rattle.roll.proofs.Before.{Stays, same, seven_at, Raised, roll-now, open-now, check-now, next-now, roll-stays, open_stays, check-stays, next-stays}
use Rattle.std.specs.Prelude.{Option, Some, None, Ok}
use Rattle.kind.specs.declared.refusals.Refusal.{Refusal}
use Rattle.kind.specs.declared.refusals.Refusal.TheVariants.{BadRoll}

-- ---- lists and limits

none-later : (high n : ℕ) (ns : List ℕ) → NoneAbove high (n ∷ ns) → NoneAbove high ns
none-later high n ns none i = none (suc i)

first-later : (high n : ℕ) (ns : List ℕ) (i : ℕ) → FirstAbove high (n ∷ ns) (suc i) → FirstAbove high ns i
first-later high n ns i f = record { above = f.above; earlier = λ j less. f.earlier (suc j) (omega arith) }

none-or-first : (high : ℕ) (ns : List ℕ) → NoneAbove high ns ⊎ ((i : ℕ) × FirstAbove high ns i)
none-or-first high [] = inl none
  where
    none : NoneAbove high []
    none zero = zero-le
    none (suc i) = zero-le
none-or-first high (n ∷ ns) = tested (ltb high n) (λ t. inr (0, record { above = ltb-true high n t; earlier = λ j less. absurd (omega (arith, less)) })) (λ f. by (ltb-false high n f) (none-or-first high ns))
  where
    by : n ≤ high → NoneAbove high ns ⊎ ((i : ℕ) × FirstAbove high ns i) → NoneAbove high (n ∷ ns) ⊎ ((i : ℕ) × FirstAbove high (n ∷ ns) i)
    by low (inl none) = inl all
      where
        all : NoneAbove high (n ∷ ns)
        all zero = low
        all (suc i) = none i
    by low (inr f) = inr (suc f.0, record { above = f.1.above; earlier = all })
      where
        all : (j : ℕ) → j < suc f.0 → get_or (n ∷ ns) j 0 ≤ high
        all zero less = low
        all (suc j) less = f.1.earlier j (omega arith)

-- ---- a number that stands at a place

stands : (s rest : List ℕ) (at n : ℕ) → drop at s ≡ bytes_of n ++ rest → n < 2 ^ 32 → (read_at s at ≡ number.Is n (at + length_of n)) × (drop (at + length_of n) s ≡ rest)
unfolding read_at length_of
stands s rest at n is small = (rw is (reads-back-from n at rest small), drop-after s (bytes_of n) rest at (at + length_of n) is refl)

one_byte_lem : (s rest : List ℕ) (at n : ℕ) → drop at s ≡ bytes_of n ++ rest → n < group → (read_at s at ≡ number.Is n (at + 1)) × (drop (at + 1) s ≡ rest)
one_byte_lem s rest at n is small = rw (length_last n small) at (stands s rest at n is (omega arith))

within : (s : List ℕ) (at low high n next : ℕ) → read_at s at ≡ number.Is n next → low ≤ n → n ≤ high → within_at s at low high ≡ field.Is n next
within s at low high n next read above below = sym (within-is s at low high (read_at s at) n next refl read above below)

beyond : (s : List ℕ) (at low high n next : ℕ) → read_at s at ≡ number.Is n next → low ≤ n → high < n → within_at s at low high ≡ field.Refused BadRoll at
beyond s at low high n next read above over = sym (within-high s at low high (read_at s at) n next refl read above over)

-- ---- the orders

-- the centre's sum with each order, as the reading goes through them
abbrev sums_from : ℕ → ℕ → List ℕ → List ℕ
sums_from i sum [] = []
sums_from i sum (o ∷ os) = (sum + o) ∷ sums_from (i + 1) (sum_after i sum o) os

sums-are : (i : ℕ) (os : List ℕ) → i % 3 ≡ 0 → sums_from i 0 os ≡ centre_sums os
sums-are i [] phase = refl
sums-are i (x ∷ []) phase = ap (λ (n : ℕ). n ∷ []) (omega arith)
sums-are i (x ∷ y ∷ []) phase =
    let one : sum_after i 0 x ≡ x = simp (ne_eqb (i % 3) 2 (λ e. omega arith)) (omega arith) in
    rw one (ap (λ (n : ℕ). n ∷ (x + y) ∷ []) (omega arith))
sums-are i (x ∷ y ∷ z ∷ os) phase =
    let first : 0 + x ≡ x = omega arith in
    let one : sum_after i 0 x ≡ x = simp (ne_eqb (i % 3) 2 (λ e. omega arith)) (omega arith) in
    let two : sum_after (i + 1) x y ≡ x + y = simp (ne_eqb ((i + 1) % 3) 2 (λ e. omega arith)) in
    let anew : sum_after (i + 1 + 1) (x + y) z ≡ 0 = simp (eq-eqb ((i + 1 + 1) % 3) 2 (omega arith)) in
    rw (one, two, anew, first) (ap (λ (l : List ℕ). x ∷ (x + y) ∷ (x + y + z) ∷ l) (sums-are (i + 1 + 1 + 1) os (omega arith)))

small-orders : (os : List ℕ) → CentresFit os → Below group os
small-orders [] fit = tt
small-orders (x ∷ []) fit = absurd fit
small-orders (x ∷ y ∷ []) fit = absurd fit
small-orders (x ∷ y ∷ z ∷ os) fit =
    let sum : x + y + z ≤ most_order = fit.0 in
    (omega arith, (omega arith, (omega arith, small-orders os fit.1)))

sum_kept : (high i sum o : ℕ) → sum + o ≤ high → sum_after i sum o ≤ high
sum_kept high i sum o low = by (eqb (i % 3) 2)
  where
    by : (b : Bool) → cond b 0 (sum + o) ≤ high
    by true = zero-le
    by false = low

module _ (m : ReaderLimits) where
  orders-read : (os : List ℕ) (i sum : ℕ) (s rest : List ℕ) (at : ℕ) → Below group os → NoneAbove m.order (sums_from i sum os) → drop at s ≡ numbers_bytes os ++ rest → (orders_under m s at (length os) i sum ≡ got os (at + length os)) × (drop (at + length os) s ≡ rest)
  unfolding orders_under numbers_bytes
  orders-read [] i sum s rest at small none is = let end : at + 0 ≡ at = omega arith in rw end (refl, is)
  orders-read (o ∷ os) i sum s rest at small none is =
      let low : sum + o ≤ m.order = none 0 in
      let b = one_byte_lem s (numbers_bytes os ++ rest) at o (is ∙ append_assoc (bytes_of o) (numbers_bytes os) rest) small.0 in
      let r = orders-read os (i + 1) (sum_after i sum o) s rest (at + 1) small.1 (none-later m.order (sum + o) (sums_from (i + 1) (sum_after i sum o) os) none) b.1 in
      let end : at + suc (length os) ≡ at + 1 + length os = omega arith in
      rw (end, within s at 0 (m.order - sum) o (at + 1) b.0 zero-le (omega arith), r.0) (refl, r.1)

  orders-stop : (os : List ℕ) (i sum j : ℕ) (s rest : List ℕ) (at : ℕ) → sum ≤ m.order → Below group os → FirstAbove m.order (sums_from i sum os) j → drop at s ≡ numbers_bytes os ++ rest → orders_under m s at (length os) i sum ≡ refused BadRoll (at + j)
  unfolding orders_under numbers_bytes
  orders-stop [] i sum zero s rest at kept small first is = absurd (omega (arith, first.above))
  orders-stop [] i sum (suc j) s rest at kept small first is = absurd (omega (arith, first.above))
  orders-stop (o ∷ os) i sum zero s rest at kept small first is =
      let high : m.order < sum + o = first.above in
      let b = one_byte_lem s (numbers_bytes os ++ rest) at o (is ∙ append_assoc (bytes_of o) (numbers_bytes os) rest) small.0 in
      let end : at + 0 ≡ at = omega arith in
      rw (end, beyond s at 0 (m.order - sum) o (at + 1) b.0 zero-le (omega arith)) refl
  orders-stop (o ∷ os) i sum (suc j) s rest at kept small first is =
      let low : sum + o ≤ m.order = first.earlier 0 (omega arith) in
      let b = one_byte_lem s (numbers_bytes os ++ rest) at o (is ∙ append_assoc (bytes_of o) (numbers_bytes os) rest) small.0 in
      let r = orders-stop os (i + 1) (sum_after i sum o) j s rest (at + 1) (sum_kept m.order i sum o low) small.1 (first-later m.order (sum + o) (sums_from (i + 1) (sum_after i sum o) os) j first) b.1 in
      let end : at + suc j ≡ at + 1 + j = omega arith in
      rw (end, within s at 0 (m.order - sum) o (at + 1) b.0 zero-le (omega arith), r) refl

-- ---- a term

-- a term that reads: its scale stands at its place, and the rest follows
record Scaled (k : Kind) (l : ℕ) (s : List ℕ) (at : ℕ) (t : Term) (next : ℕ) : Type 0 where
  pub after : ℕ
  pub some : 1 ≤ t.scale
  pub read : read_at s at ≡ number.Is t.scale after
  pub rest : boys_at s after k l t.scale ≡ got t next

scaled : (k : Kind) (l : ℕ) (s : List ℕ) (at : ℕ) (t : Term) (next : ℕ) → term_at s at k l ≡ got t next → Scaled k l s at t next
unfolding term_at
scaled k l s at t next e =
    let x = onward-is (within_at s at 1 most_scale) (λ scale m. boys_at s m k l scale) t next e in
    let there = (taken s at 1 most_scale (within_at s at 1 most_scale) x.0 x.1 refl x.2).read in
    let r = (term-read k l s at t next e).scale in
    let read = r.read in
    let one : x.0 ≡ t.scale = (ok-both (sym there ∙ read)).0 in
    record { after = x.1; some = r.above; read = rw one at there; rest = rw one at x.3 }

module _ (m : ReaderLimits) where
  term-low : (k : Kind) (l : ℕ) (s : List ℕ) (at : ℕ) (t : Term) (next : ℕ) → term_at s at k l ≡ got t next → t.scale ≤ m.scale → term_under m s at k l ≡ got t next
  unfolding term_under
  term-low k l s at t next e low =
      let x = scaled k l s at t next e in
      ap (λ (f : Field). onward f (λ scale next. boys_at s next k l scale)) (within s at 1 m.scale t.scale x.after x.read x.some low) ∙ x.rest

  -- a higher scale is refused where it stands
  pub term-high : (k : Kind) (l : ℕ) (s : List ℕ) (at : ℕ) (t : Term) (next : ℕ) → term_at s at k l ≡ got t next → m.scale < t.scale → term_under m s at k l ≡ refused BadRoll at
  unfolding term_under
  term-high k l s at t next e high =
      let x = scaled k l s at t next e in
      ap (λ (f : Field). onward f (λ scale next. boys_at s next k l scale)) (beyond s at 1 m.scale t.scale x.after x.read x.some high)

  terms-read : (k : Kind) (l : ℕ) (ts : List Term) (s : List ℕ) (at : ℕ) → l ≤ most_l k → at ≤ length s → TermsFit k l ts → NoneAbove m.scale (scales ts) → drop at s ≡ terms_bytes ts → terms_under m s at (length ts) k l ≡ got ts (length s)
  unfolding terms_under terms_at terms_bytes
  terms-read k l [] s at small inside fit none is = terms-back k l [] s at small inside fit is
  terms-read k l (t ∷ ts) s at small inside fit none is =
      let x = term-back k l t s (terms_bytes ts) at small fit.0 is in
      let r = terms-read k l ts s x.0 small (term-inside k l s at t x.0 x.1) fit.1 (none-later m.scale t.scale (scales ts) none) x.2 in
      rw (term-low k l s at t x.0 x.1 (none 0), r) refl

  terms-stop : (k : Kind) (l : ℕ) (ts : List Term) (i : ℕ) (s : List ℕ) (at : ℕ) → l ≤ most_l k → at ≤ length s → TermsFit k l ts → FirstAbove m.scale (scales ts) i → drop at s ≡ terms_bytes ts → terms_under m s at (length ts) k l ≡ refused BadRoll (at + length (terms_bytes (take i ts)))
  unfolding terms_under terms_bytes
  terms-stop k l [] zero s at small inside fit first is = absurd (omega (arith, first.above))
  terms-stop k l [] (suc i) s at small inside fit first is = absurd (omega (arith, first.above))
  terms-stop k l (t ∷ ts) zero s at small inside fit first is =
      let x = term-back k l t s (terms_bytes ts) at small fit.0 is in
      let end : at + 0 ≡ at = omega arith in
      rw (end, term-high k l s at t x.0 x.1 first.above) refl
  terms-stop k l (t ∷ ts) (suc i) s at small inside fit first is =
      let x = term-back k l t s (terms_bytes ts) at small fit.0 is in
      let within = term-inside k l s at t x.0 x.1 in
      let next : x.0 ≡ at + length (term_bytes t) = omega (arith, inside, within, length-drop at s, length-drop x.0 s, ap length is, ap length x.2, length-append (term_bytes t) (terms_bytes ts)) in
      let r = terms-stop k l ts i s x.0 small within fit.1 (first-later m.scale t.scale (scales ts) i first) x.2 in
      let end : x.0 + length (terms_bytes (take i ts)) ≡ at + length (term_bytes t ++ terms_bytes (take i ts)) = omega (arith, next, length-append (term_bytes t) (terms_bytes (take i ts))) in
      rw (term-low k l s at t x.0 x.1 (first.earlier 0 (omega arith)), r) (ap (λ (n : ℕ). refused BadRoll n) end)

-- ---- the writing of a roll that keeps our limits, under any others

module _ (m : ReaderLimits) (r : Roll) (fit : RollFits r) where
  abbrev s : List ℕ
  s = writing r

  abbrev count : ℕ
  count = length r.terms

  -- the place of the count, and the one after it
  abbrev counts : ℕ
  counts = 1 + orders_of r.kind

  abbrev after : ℕ
  after = counts + length_of count

  kind-there : (read_at s 0 ≡ number.Is (number_of r.kind) 1) × (drop 1 s ≡ numbers_bytes r.orders ++ (bytes_of count ++ terms_bytes r.terms))
  unfolding roll_bytes
  kind-there = one_byte_lem s (numbers_bytes r.orders ++ (bytes_of count ++ terms_bytes r.terms)) 0 (number_of r.kind) refl (omega (arith, number-within r.kind))

  -- the header from its orders on
  header-from : (x : Reading (List ℕ)) → orders_under m s 1 (orders_of r.kind) 0 0 ≡ x → header_under m s ≡ and_then x (λ orders next. counted_under m s next r.kind orders)
  unfolding header_under
  header-from x e =
      ap (λ (f : Field). onward f (λ n next. of_kind_under m s next (kind_of n))) (within s 0 0 (number_of Coulomb) (number_of r.kind) 1 kind-there.0 zero-le (number-within r.kind))
      ∙ ap (λ (n : Option Kind). of_kind_under m s 1 n) (kind-number r.kind)
      ∙ ap (λ (x : Reading (List ℕ)). and_then x (λ orders next. counted_under m s next r.kind orders)) e

  header-stops : (i : ℕ) → FirstAbove m.order (centre_sums r.orders) i → header_under m s ≡ refused BadRoll (1 + i)
  header-stops i first =
      let sums = sums-are 0 r.orders refl in
      let stop = orders-stop m r.orders 0 0 i s (bytes_of count ++ terms_bytes r.terms) 1 zero-le (small-orders r.orders fit.sums) (rw sums first) kind-there.1 in
      header-from (refused BadRoll (1 + i)) (ap (λ (n : ℕ). orders_under m s 1 n 0 0) (sym fit.places) ∙ stop)

  module _ (low : NoneAbove m.order (centre_sums r.orders)) where
    orders-there : (orders_under m s 1 (orders_of r.kind) 0 0 ≡ got r.orders counts) × (drop counts s ≡ bytes_of count ++ terms_bytes r.terms)
    orders-there = rw fit.places at (orders-read m r.orders 0 0 s (bytes_of count ++ terms_bytes r.terms) 1 (small-orders r.orders fit.sums) (rw (sums-are 0 r.orders refl) low) kind-there.1)

    count-there : (read_at s counts ≡ number.Is count after) × (drop after s ≡ terms_bytes r.terms)
    count-there = stands s (terms_bytes r.terms) counts count orders-there.1 (omega (arith, fit.most))

    count-stops : m.terms < count → header_under m s ≡ refused BadRoll counts
    unfolding counted_under
    count-stops high =
        header-from (got r.orders counts) orders-there.0
        ∙ ap (λ (f : Field). onward f (λ count next. got (record { kind = r.kind; orders = r.orders; terms = count }) next)) (beyond s counts 1 m.terms count after count-there.0 fit.terms-least high)

    header-reads : count ≤ m.terms → header_under m s ≡ got (record { kind = r.kind; orders = r.orders; terms = count }) after
    unfolding counted_under
    header-reads few =
        header-from (got r.orders counts) orders-there.0
        ∙ ap (λ (f : Field). onward f (λ count next. got (record { kind = r.kind; orders = r.orders; terms = count }) next)) (within s counts 1 m.terms count after count-there.0 fit.terms-least few)

    terms-inside : after ≤ length s
    terms-inside = (read-inside s counts count after count-there.0).1

  roll-small : total r.orders ≤ most_l r.kind
  roll-small =
      let opens = reads-checked s r (length s) (roll-back r fit) in
      let d = headed opens.opened s (record { roll = r; end = length s; reads = roll-back r fit; header = sym opens.opens }) in
      let h = d.header in
      let hr = header_read s h d.next d.is in
      rw (d.kind, d.orders) at (orders-most h.kind s hr.a h.orders hr.b hr.orders)

  -- a header that is refused is the roll's refusal, and the check's
  refused-roll : (n : Refusal) (p : ℕ) → header_under m s ≡ refused n p → roll_under m s ≡ refused n p
  unfolding roll_under
  refused-roll n p e = rw e refl

  abbrev header : Header
  header = record { kind = r.kind; orders = r.orders; terms = count }

  module _ (low : NoneAbove m.order (centre_sums r.orders)) (few : count ≤ m.terms) where
    scale-stops : (i : ℕ) → FirstAbove m.scale (scales r.terms) i → terms_under m s after count r.kind (total r.orders) ≡ refused BadRoll (after + length (terms_bytes (take i r.terms)))
    scale-stops i first = terms-stop m r.kind (total r.orders) r.terms i s after roll-small (terms-inside low) fit.terms first (count-there low).1

    roll-stops : (i : ℕ) → FirstAbove m.scale (scales r.terms) i → roll_under m s ≡ refused BadRoll (after + length (terms_bytes (take i r.terms)))
    unfolding roll_under
    roll-stops i first = rw (header-reads low few, scale-stops i first) refl

    check-stops : (i : ℕ) → FirstAbove m.scale (scales r.terms) i → check_under m s ≡ refused_opened BadRoll (after + length (terms_bytes (take i r.terms)))
    unfolding check_under
    check-stops i first = ap (checked_under m s) (header-reads low few) ∙ ap (judged (held_header (got header after))) (scale-stops i first)

  roll-reads : Keeps m r → roll_under m s ≡ got r (length s)
  unfolding roll_under
  roll-reads keeps =
      rw (header-reads keeps.orders keeps.count, terms-read m r.kind (total r.orders) r.terms s after roll-small (terms-inside keeps.orders) fit.terms keeps.scale (count-there keeps.orders).1) refl

  -- what reads keeps the limits: the first number above one would have been refused
  module _ (q : Roll) (end : ℕ) (reads : roll_under m s ≡ got q end) where
    keeps-orders : NoneAbove m.order (centre_sums r.orders)
    keeps-orders = by (none-or-first m.order (centre_sums r.orders))
      where
        by : NoneAbove m.order (centre_sums r.orders) ⊎ ((i : ℕ) × FirstAbove m.order (centre_sums r.orders) i) → NoneAbove m.order (centre_sums r.orders)
        by (inl none) = none
        by (inr f) = let stop = refused-roll BadRoll (1 + f.0) (header-stops f.0 f.1) in absurd (clash (cc))

    keeps-count : count ≤ m.terms
    keeps-count = tested (ltb m.terms count) (λ t. let stop = refused-roll BadRoll counts (count-stops keeps-orders (ltb-true m.terms count t)) in absurd (clash (cc))) (λ f. ltb-false m.terms count f)

    keeps-scale : NoneAbove m.scale (scales r.terms)
    keeps-scale = by (none-or-first m.scale (scales r.terms))
      where
        by : NoneAbove m.scale (scales r.terms) ⊎ ((i : ℕ) × FirstAbove m.scale (scales r.terms) i) → NoneAbove m.scale (scales r.terms)
        by (inl none) = none
        by (inr f) = let stop = roll-stops keeps-orders keeps-count f.0 f.1 in absurd (clash (cc))

    roll-keeps : Keeps m r
    roll-keeps = record { orders = keeps-orders; count = keeps-count; scale = keeps-scale }

-- ---- a step at a term of a higher scale

module _ (m : ReaderLimits) where
  step-high : (n : Option Kind) (c : Cursor) (s : List ℕ) (y : Step) → step_as n c s ≡ Ok (Some y) → m.scale < y.term.scale → step_as_under m n c s ≡ refused_step BadRoll c.place
  step-high (Some k) c s y is high =
      let x = by (ltb (most_l k) c.l || ltb (length s) c.place) (eqb c.left 0) (eqb c.place (length s)) (term_at s c.place k c.l) refl is high in
      rw (x.0, x.1) (all (ltb (most_l_under m k) c.l || ltb (length s) c.place))
    where
      step : Bool → Bool → Bool → Reading Term → Stepped
      step forged none ends x = cond forged (refused_step BadRoll c.place) (cond none (cond ends end_step (refused_step BadRoll c.place)) (stepped c x))

      by : (forged none ends : Bool) (x : Reading Term) → term_at s c.place k c.l ≡ x → step forged none ends x ≡ Ok (Some y) → m.scale < y.term.scale → (none ≡ false) × (term_under m s c.place k c.l ≡ refused BadRoll c.place)
      by true none ends x read is high = absurd (clash (cc))
      by false true true x read is high = absurd (clash (cc))
      by false true false x read is high = absurd (clash (cc))
      by false false ends (got t next) read is high =
          let same : record { term = held t; next = record { place = next; left = c.left - 1; kind = c.kind; l = c.l } } ≡ y = cc in
          (refl, term-high m k c.l s c.place t next read (rw (ap (λ (x : Step). x.term.scale) same) high))
      by false false ends (refused r p) read is high = absurd (clash (cc))

      all : (b : Bool) → cond b (refused_step BadRoll c.place) (refused_step BadRoll c.place) ≡ refused_step BadRoll c.place
      all true = refl
      all false = refl
  step-high None c s y is high = refl

  next-high : (c : Cursor) (s : List ℕ) (y : Step) → step_of c s ≡ Ok (Some y) → m.scale < y.term.scale → next_under m c s ≡ refused_step BadRoll c.place
  unfolding next_under step_of
  next-high c s y is high = step-high (kind_of c.kind) c s y is high

-- ---- the limits of before

-- no limit was lowered
pub raised : Raised limits_before limits_now
raised = record { order = omega arith; terms = omega arith; scale = omega arith }

unless-seven : {A : Type 0} (refusal : A → ℕ) (seven : ℕ → A) (old new : A) → ((p : ℕ) → refusal (seven p) ≡ 7) → Stays seven old new → (refusal old ≡ 7 → ⊥) → new ≡ old
unless-seven refusal seven old new is (same e) other = sym e
unless-seven refusal seven old new is (seven_at p e) other = absurd (other (ap refusal e ∙ is p))

pub old-reads : (s : List ℕ) (r : Roll) (end : ℕ) → roll_under limits_before s ≡ got r end → roll_at s ≡ got r end
old-reads s r end e = by (roll-stays limits_before limits_now raised s)
  where
    by : Stays (refused BadRoll) (roll_under limits_before s) (roll_under limits_now s) → roll_at s ≡ got r end
    by (same is) = sym (roll-now s) ∙ sym is ∙ e
    by (seven_at p is) = absurd (clash (cc))

pub old-opens : (s : List ℕ) → (refusal_of (open_under limits_before s) ≡ 7 → ⊥) → open_of s ≡ open_under limits_before s
old-opens s other =
    sym (open-now s)
    ∙ unless-seven refusal_of (refused_opened BadRoll) (open_under limits_before s) (open_under limits_now s) (λ p. refl) (open_stays limits_before limits_now raised s) other

pub old-checks : (s : List ℕ) → (refusal_of (check_under limits_before s) ≡ 7 → ⊥) → check_of s ≡ check_under limits_before s
old-checks s other =
    sym (check-now s)
    ∙ unless-seven refusal_of (refused_opened BadRoll) (check_under limits_before s) (check_under limits_now s) (λ p. refl) (check-stays limits_before limits_now raised s) other

pub old-steps : (c : Cursor) (s : List ℕ) → (refusal_of (next_under limits_before c s) ≡ 7 → ⊥) → step_of c s ≡ next_under limits_before c s
old-steps c s other =
    sym (next-now c s)
    ∙ unless-seven refusal_of (refused_step BadRoll) (next_under limits_before c s) (next_under limits_now c s) (λ p. refl) (next-stays limits_before limits_now raised c s) other

no_other : (s : List ℕ) (r : Roll) (end : ℕ) → Bytes s → roll_under limits_before s ≡ got r end → (s ≡ writing r) × RollFits r × Keeps limits_before r
no_other s r end bytes e =
    let x = roll-read s r end bytes (old-reads s r end e) in
    (x.0, x.1, roll-keeps limits_before r x.1 r end (ap (roll_under limits_before) (sym x.0) ∙ e))

pub old-rolls : OldRolls
old-rolls = record { reads = old-reads; opens = old-opens; checks = old-checks; steps = old-steps; written = roll-reads limits_before; no_other = no_other }

refused-at : (s : List ℕ) (p : ℕ) → header_under limits_before s ≡ refused BadRoll p → RefusedAt s p
unfolding open_under check_under
refused-at s p e = record { opens = ap held_header e; checks = ap (checked_under limits_before s) e }

-- a header that an old cabinet takes opens as ours does
open-taken : (s : List ℕ) (h : Header) (next : ℕ) → header_under limits_before s ≡ got h next → refusal_of (open_under limits_before s) ≡ 0
unfolding open_under
open-taken s h next e = ap (λ (x : Reading Header). refusal_of (held_header x)) e

opens-so : (s : List ℕ) (h : Header) (next : ℕ) → header_under limits_before s ≡ got h next → open_under limits_before s ≡ open_of s
opens-so s h next e = sym (old-opens s (λ seven. omega (arith, open-taken s h next e, seven)))

pub old-cabinet : OldCabinet
old-cabinet =
    record {
      at-order = λ r fit i first. refused-at (writing r) (1 + i) (header-stops limits_before r fit i first);
      at_count = λ r fit low high. refused-at (writing r) (1 + orders_of r.kind) (count-stops limits_before r fit low high);
      at-scale = λ r fit i low few first. record {
        opens = opens-so (writing r) (record { kind = r.kind; orders = r.orders; terms = length r.terms }) (1 + orders_of r.kind + length_of (length r.terms)) (header-reads limits_before r fit low few);
        checks = check-stops limits_before r fit low few i first;
      };
      at-step = next-high limits_before;
      reads_now = roll-back;
    }

pub old-cases : OldCases
unfolding roll_under header_under orders_under counted_under term_under terms_under roll_at header_at orders_at counted_at term_at terms_at boys_at count_at prefactors_at within_at read_at read_from higher total
old-cases =
    record {
      last-order = refl;
      order-above = refl;
      sum-above = refl;
      last-count = refl;
      count-above = refl;
      last-scale = refl;
      scale-above = refl;
      order-now = refl;
      sum-now = refl;
      count-now = refl;
      scale-now = refl;
    }
