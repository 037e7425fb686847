-- What was written reads back: number by number, from the front, as the definitions read.
use Prim.Native.Nat.{ℕ, ◌+◌, ◌-◌, ◌%◌, ◌^◌, ◌≤◌, ◌<◌}
use mathlib.Core.Path.{◌≡◌, refl, sym, ap, ◌∙◌}
use mathlib.Core.List.{List, [], ◌∷◌, ◌++◌, append_assoc}
use native.Mathlib.Omega.{arith}
use borrow.Author.Tests.{eq-eqb, ne_eqb}
use lib.ListN.{length, drop, length-drop}
use Rattle.kind.specs.Limits.{most_order, most_scale, most_terms, table_places}
use Rattle.kind.specs.Kinds.{kind_of, number_of, orders_of, table_of, most_l, most_prefactors}
use Rattle.kind.specs.declared.Kind.{Kind}
use Rattle.kind.specs.declared.Kind.TheVariants.{Overlap, Kinetic, Nuclear, Moment, Coulomb}
use Rattle.kind.proofs.KindNumber.{kind-number}
use Rattle.kind.proofs.Within.{number-within, l-within, table-within}
use Rattle.laws.proofs.Lists.{drop-after}
use Rattle.number.specs.Numbers.{bytes_of, length_of, read_at}
use Rattle.number.proofs.Laws.{reads-back-from}
use Rattle.term.specs.Terms.{Term}
use Rattle.roll.specs.Field.{Field}
use Rattle.roll.specs.Field as field
use Rattle.roll.specs.Bytes.{numbers_bytes, term_bytes, terms_bytes, roll_bytes}
use Rattle.laws.specs.Total.{total}
use Rattle.roll.specs.Reading.{Reading, got, onward, and_then, within_at, prefactors_at, most_boys, count_at, boys_at, term_at, terms_at, sum_after, orders_at, counted_at, of_kind, header_at, Roll, roll_at}
use Rattle.roll.specs.Fits.{CentresFit, Below, TermFits, TermsFit, RollFits}
use Rattle.roll.proofs.FieldLaws.{within-is}
use Rattle.roll.proofs.HeaderLaws.{sum-small}
use Rattle.roll.proofs.Inside.{term-inside, header_read, header-inside, orders-most}
use Rattle.roll.proofs.TermsLaws.{few-prefactors}
use Rattle.std.specs.Prelude.{Option, Some}

-- ---- a number

pub field_back : (s rest : List ℕ) (at low high n : ℕ) → drop at s ≡ bytes_of n ++ rest → n < 2 ^ 32 → low ≤ n → n ≤ high → (next : ℕ) × (within_at s at low high ≡ field.Is n next) × (drop next s ≡ rest)
unfolding read_at length_of
field_back s rest at low high n is small above below = (
  at + length_of n,
  sym (within-is s at low high (read_at s at) n (at + length_of n) refl (rw is (reads-back-from n at rest small)) above below),
  drop-after s (bytes_of n) rest at (at + length_of n) is refl,
)

-- ---- a term

pub prefactors-back : (ps : List ℕ) (table : ℕ) (s rest : List ℕ) (at : ℕ) → table ≤ table_places → Below table ps → drop at s ≡ numbers_bytes ps ++ rest → (next : ℕ) × (prefactors_at s at (length ps) table ≡ got ps next) × (drop next s ≡ rest)
unfolding prefactors_at numbers_bytes
prefactors-back [] table s rest at places below is = (at, refl, is)
prefactors-back (p ∷ ps) table s rest at places below is =
    let under : p < table = below.0 in
    let f = field_back s (numbers_bytes ps ++ rest) at 0 (table - 1) p (is ∙ append_assoc (bytes_of p) (numbers_bytes ps) rest) (omega arith) (omega arith) (omega arith) in
    let r = prefactors-back ps table s rest f.0 places below.1 f.2 in
    (r.0, rw (f.1, r.1), r.2)

pub most-boys : (k : Kind) (l : ℕ) → most_boys k l ≤ l
most-boys Overlap l = omega arith
most-boys Kinetic l = omega arith
most-boys Nuclear l = omega arith
most-boys Moment l = omega arith
most-boys Coulomb l = omega arith

pub term-back : (k : Kind) (l : ℕ) (t : Term) (s rest : List ℕ) (at : ℕ) → l ≤ most_l k → TermFits k l t → drop at s ≡ term_bytes t ++ rest → (next : ℕ) × (term_at s at k l ≡ got t next) × (drop next s ≡ rest)
unfolding term_bytes term_at boys_at count_at
term-back k l t s rest at small fit is =
    let ps = t.prefactors in
    let after-count = numbers_bytes ps ++ rest in
    let after-boys = bytes_of (length ps) ++ after-count in
    let after-scale = bytes_of t.boys ++ after-boys in
    let split : drop at s ≡ bytes_of t.scale ++ after-scale =
    is ∙ append_assoc (bytes_of t.scale) (bytes_of t.boys ++ (bytes_of (length ps) ++ numbers_bytes ps)) rest
    ∙ ap (λ (x : List ℕ). bytes_of t.scale ++ x) (append_assoc (bytes_of t.boys) (bytes_of (length ps) ++ numbers_bytes ps) rest
    ∙ ap (λ (x : List ℕ). bytes_of t.boys ++ x) (append_assoc (bytes_of (length ps)) (numbers_bytes ps) rest)) in
    let few = few-prefactors k l small in
    let f = field_back s after-scale at 1 most_scale t.scale split (omega (arith, fit.scale)) fit.scale-least fit.scale in
    let g = field_back s after-boys f.0 0 (most_boys k l) t.boys f.2 (omega (arith, fit.boys, most-boys k l, l-within k)) (omega arith) fit.boys in
    let h = field_back s after-count g.0 0 (most_prefactors k l) (length ps) g.2 (omega (arith, fit.count)) (omega arith) fit.count in
    let r = prefactors-back ps (table_of k) s rest h.0 (table-within k) fit.prefactors h.2 in
    (r.0, rw (f.1, g.1, h.1, r.1), r.2)

pub terms-back : (k : Kind) (l : ℕ) (ts : List Term) (s : List ℕ) (at : ℕ) → l ≤ most_l k → at ≤ length s → TermsFit k l ts → drop at s ≡ terms_bytes ts → terms_at s at (length ts) k l ≡ got ts (length s)
unfolding terms_at terms_bytes
terms-back k l [] s at small inside fit is =
    let end : at ≡ length s = omega (arith, length-drop at s, ap length is) in
    simp (eq-eqb at (length s) end) (ap (λ (n : ℕ). got [] n) end)
terms-back k l (t ∷ ts) s at small inside fit is =
    let x = term-back k l t s (terms_bytes ts) at small fit.0 is in
    let r = terms-back k l ts s x.0 small (term-inside k l s at t x.0 x.1) fit.1 x.2 in
    rw (x.1, r)

-- ---- the header

-- each order within what its centre's sum leaves
abbrev Keeps : ℕ → ℕ → List ℕ → Type 0
Keeps i sum [] = Unit
Keeps i sum (o ∷ os) = (o ≤ most_order - sum) × Keeps (i + 1) (sum_after i sum o) os

fit-keeps : (i : ℕ) (os : List ℕ) → i % 3 ≡ 0 → CentresFit os → Keeps i 0 os
fit-keeps i [] phase fit = tt
fit-keeps i (x ∷ []) phase fit = absurd fit
fit-keeps i (x ∷ y ∷ []) phase fit = absurd fit
fit-keeps i (x ∷ y ∷ z ∷ os) phase fit =
    let sum : x + y + z ≤ most_order = fit.0 in
    let one : sum_after i 0 x ≡ 0 + x = simp (ne_eqb (i % 3) 2 (λ e. omega arith)) in
    let two : sum_after (i + 1) (0 + x) y ≡ 0 + x + y = simp (ne_eqb ((i + 1) % 3) 2 (λ e. omega arith)) in
    let anew : sum_after (i + 1 + 1) (0 + x + y) z ≡ 0 = simp (eq-eqb ((i + 1 + 1) % 3) 2 (omega arith)) in
    let rest : Keeps (i + 1 + 1 + 1) 0 os = fit-keeps (i + 1 + 1 + 1) os (omega arith) fit.1 in
    (omega arith, rw one (omega arith, rw two (omega arith, rw anew rest)))

orders-back : (os : List ℕ) (i sum : ℕ) (s rest : List ℕ) (at : ℕ) → sum ≤ most_order → Keeps i sum os → drop at s ≡ numbers_bytes os ++ rest → (next : ℕ) × (orders_at s at (length os) i sum ≡ got os next) × (drop next s ≡ rest)
unfolding orders_at numbers_bytes
orders-back [] i sum s rest at small keeps is = (at, refl, is)
orders-back (o ∷ os) i sum s rest at small keeps is =
    let within : o ≤ most_order - sum = keeps.0 in
    let f = field_back s (numbers_bytes os ++ rest) at 0 (most_order - sum) o (is ∙ append_assoc (bytes_of o) (numbers_bytes os) rest) (omega arith) (omega arith) within in
    let r = orders-back os (i + 1) (sum_after i sum o) s rest f.0 (sum-small i sum o small within) keeps.1 f.2 in
    (r.0, rw (f.1, r.1), r.2)

-- from the orders on
pub kind-back : (k : Kind) (os : List ℕ) (terms : ℕ) (s rest : List ℕ) (at : ℕ) → length os ≡ orders_of k → CentresFit os → 1 ≤ terms → terms ≤ most_terms → drop at s ≡ numbers_bytes os ++ (bytes_of terms ++ rest) → (next : ℕ) × (of_kind s at (Some k) ≡ got (record { kind = k; orders = os; terms = terms }) next) × (drop next s ≡ rest)
unfolding counted_at
kind-back k os terms s rest at places fit some most is =
    let o = orders-back os 0 0 s (bytes_of terms ++ rest) at (omega arith) (fit-keeps 0 os refl fit) is in
    let c = field_back s rest o.0 1 most_terms terms o.2 (omega arith) some most in
    let orders : orders_at s at (orders_of k) 0 0 ≡ got os o.0 = ap (λ (n : ℕ). orders_at s at n 0 0) (sym places) ∙ o.1 in (
      c.0,
      ap (λ (x : Reading (List ℕ)). and_then x (λ orders next. counted_at s next k orders)) orders
          ∙ ap (λ (x : Field). onward x (λ count next. got (record { kind = k; orders = os; terms = count }) next)) c.1,
      c.2,
    )

header-back : (k : Kind) (os : List ℕ) (terms : ℕ) (s rest : List ℕ) → length os ≡ orders_of k → CentresFit os → 1 ≤ terms → terms ≤ most_terms → s ≡ bytes_of (number_of k) ++ (numbers_bytes os ++ (bytes_of terms ++ rest)) → (next : ℕ) × (header_at s ≡ got (record { kind = k; orders = os; terms = terms }) next) × (drop next s ≡ rest)
unfolding header_at
header-back k os terms s rest places fit some most is =
    let f = field_back s (numbers_bytes os ++ (bytes_of terms ++ rest)) 0 0 (number_of Coulomb) (number_of k) is (omega (arith, number-within k)) (omega arith) (number-within k) in
    let r = kind-back k os terms s rest f.0 places fit some most f.2 in (
      r.0,
      ap (λ (x : Field). onward x (λ n next. of_kind s next (kind_of n))) f.1
          ∙ ap (λ (m : Option Kind). of_kind s f.0 m) (kind-number k)
          ∙ r.1,
      r.2,
    )

-- ---- the roll

pub roll-back : (r : Roll) → RollFits r → roll_at (roll_bytes r.kind r.orders r.terms) ≡ got r (length (roll_bytes r.kind r.orders r.terms))
unfolding roll_at roll_bytes
roll-back r fit =
    let s = bytes_of (number_of r.kind) ++ (numbers_bytes r.orders ++ (bytes_of (length r.terms) ++ terms_bytes r.terms)) in
    let h = header-back r.kind r.orders (length r.terms) s (terms_bytes r.terms) fit.places fit.sums fit.terms-least fit.most refl in
    let hr = header_read s (record { kind = r.kind; orders = r.orders; terms = length r.terms }) h.0 h.1 in
    let ts = terms-back r.kind (total r.orders) r.terms s h.0 (orders-most r.kind s hr.a r.orders hr.b hr.orders) (header-inside s (record { kind = r.kind; orders = r.orders; terms = length r.terms }) h.0 hr) fit.terms h.2 in
    rw (h.1, ts)
