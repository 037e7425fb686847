-- 01, "The roll": what a roll says from a place on, and the first rule that it breaks, with the place (D-9).
use Rattle.std.specs.Prelude.{ℕ, zero, suc, ◌+◌, ◌-◌, ◌%◌, cond, ◌||◌, List, [], ◌∷◌, ◌++◌, ltb, eqb, length, Option, Some, None, Err}
use Rattle.laws.specs.Total.{total}
use Rattle.kind.specs.Limits.{most_order, most_terms, most_scale}
use Rattle.kind.specs.Kinds.{kind_of, number_of, orders_of, table_of, most_prefactors, uses_boys}
use Rattle.kind.specs.declared.Kind.{Kind}
use Rattle.kind.specs.declared.Kind.TheVariants.{Coulomb}
use Rattle.kind.specs.declared.refusals.Refusal.{Refusal}
use Rattle.kind.specs.declared.refusals.Refusal.TheVariants.{BadRoll}
use Rattle.term.specs.Terms.{Term}
use Rattle.number.specs.Read.{Number}
use Rattle.number.specs.Read as number
use Rattle.number.specs.Numbers.{read_at, refusal_of}
use Rattle.roll.specs.Field.{Field}
use Rattle.roll.specs.Field as field

-- what was read and the place after it, or a refusal with its place
pub data Reading (A : Type 0) : Type 0 where
  got : A → ℕ → Reading A
  refused : Refusal → ℕ → Reading A

-- ---- a number and its limits: a `Field` is the number with the place after it, or a refusal

-- of a number from a place to the next, the place of its refusal is where it begins
abbrev pub wrong_place : ℕ → ℕ → ℕ
wrong_place at next = at

-- a number that breaks its limits is 7
abbrev pub limited : ℕ → ℕ → ℕ → ℕ → ℕ → Field
limited n next at low high = cond (ltb n low || ltb high n) (field.Refused BadRoll (wrong_place at next)) (field.Is n next)

-- a number that cannot be read ends the reading at once, with the refusal of its reason where it begins (D-8)
abbrev pub opened : Number → ℕ → ℕ → ℕ → Field
opened (number.Is n next) at low high = limited n next at low high
opened (Err why) at low high = field.Refused (refusal_of why) at

unfoldable pub within_at : List ℕ → ℕ → ℕ → ℕ → Field
within_at s at low high = opened (read_at s at) at low high

-- ---- one thing after the other

abbrev pub onward : {A : Type 0} → Field → (ℕ → ℕ → Reading A) → Reading A
onward (field.Is n next) rest = rest n next
onward (Err e) rest = refused e.refusal e.place

abbrev pub and_then : {A B : Type 0} → Reading A → (A → ℕ → Reading B) → Reading B
and_then (got a next) rest = rest a next
and_then (refused r place) rest = refused r place

-- what comes before, and the rest of a list
abbrev pub before : {A : Type 0} → List A → Reading (List A) → Reading (List A)
before xs r = and_then r (λ ys next. got (xs ++ ys) next)

-- ---- the header

-- the order sum on a centre after its order number i (0, 1, 2 by axis); then the next centre begins
abbrev pub sum_after : ℕ → ℕ → ℕ → ℕ
sum_after i sum order = cond (eqb (i % 3) 2) 0 (sum + order)

-- n orders by centre, x y z each, from order number i on; `sum` is the centre's so far, and an order with which it passes the limit is wrong
unfoldable pub orders_at : List ℕ → ℕ → ℕ → ℕ → ℕ → Reading (List ℕ)
orders_at s at zero i sum = got [] at
orders_at s at (suc n) i sum = onward (within_at s at 0 (most_order - sum)) (λ o next. before (o ∷ []) (orders_at s next n (i + 1) (sum_after i sum o)))

pub record Header : Type 0 where
  pub kind : Kind
  pub orders : List ℕ
  pub terms : ℕ

-- term count (1 to the limit)
unfoldable pub counted_at : List ℕ → ℕ → Kind → List ℕ → Reading Header
counted_at s at k orders = onward (within_at s at 1 most_terms) (λ count next. got (record { kind = k; orders = orders; terms = count }) next)

-- the kind's own number of orders
abbrev pub of_kind : List ℕ → ℕ → Option Kind → Reading Header
of_kind s at (Some k) = and_then (orders_at s at (orders_of k) 0 0) (λ orders next. counted_at s next k orders)
of_kind s at None = refused BadRoll 0

-- order: kind; orders; term count (D-10, D-57)
unfoldable pub header_at : List ℕ → Reading Header
header_at s = onward (within_at s 0 0 (number_of Coulomb)) (λ n next. of_kind s next (kind_of n))

-- ---- a term

-- prefactors, each below the table size
unfoldable pub prefactors_at : List ℕ → ℕ → ℕ → ℕ → Reading (List ℕ)
prefactors_at s at zero table = got [] at
prefactors_at s at (suc count) table = onward (within_at s at 0 (table - 1)) (λ p next. before (p ∷ []) (prefactors_at s next count table))

-- Boys order at most L; 0 for kinds 0, 1, 3 (D-59)
abbrev pub most_boys : Kind → ℕ → ℕ
most_boys k l = cond (uses_boys k) l 0

-- prefactor count at most L; kinetic L+1
unfoldable pub count_at : List ℕ → ℕ → Kind → ℕ → ℕ → ℕ → Reading Term
count_at s at k l scale boys =
    onward (within_at s at 0 (most_prefactors k l)) (λ count next.
    and_then (prefactors_at s next count (table_of k)) (λ ps end.
    got (record { scale = scale; boys = boys; prefactors = ps }) end))

unfoldable pub boys_at : List ℕ → ℕ → Kind → ℕ → ℕ → Reading Term
boys_at s at k l scale = onward (within_at s at 0 (most_boys k l)) (λ boys next. count_at s next k l scale boys)

-- for each term scale (1 to the limit), Boys order, prefactor count, prefactors
unfoldable pub term_at : List ℕ → ℕ → Kind → ℕ → Reading Term
term_at s at k l = onward (within_at s at 1 most_scale) (λ scale next. boys_at s next k l scale)

-- as many terms as the count says, and nothing follows
unfoldable pub terms_at : List ℕ → ℕ → ℕ → Kind → ℕ → Reading (List Term)
terms_at s at zero k l = cond (eqb at (length s)) (got [] at) (refused BadRoll at)
terms_at s at (suc left) k l = and_then (term_at s at k l) (λ t next. before (t ∷ []) (terms_at s next left k l))

-- ---- the roll

pub record Roll : Type 0 where
  pub kind : Kind
  pub orders : List ℕ
  pub terms : List Term

unfoldable pub roll_at : List ℕ → Reading Roll
roll_at s =
    and_then (header_at s) (λ h next.
    and_then (terms_at s next h.terms h.kind (total h.orders)) (λ ts end.
    got (record { kind = h.kind; orders = h.orders; terms = ts }) end))
