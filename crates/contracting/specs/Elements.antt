-- 02, Q-1: the element of two contracted functions over a roll of overlap or kinetic: 15, 16, 7 or 14 of the roll, 1, 8, 9, 11, or the sum.
use Rattle.std.specs.Prelude.{ℕ, ◌*◌, Bool, true, false, ◌&&◌, List, [], ◌∷◌, eqb, Float, length, Err}
use Rattle.std.specs.List.{list_all}
use Rattle.std.specs.Float.Ieee.Scale.{finite}
use Rattle.laws.specs.Total.{total}
use Rattle.laws.specs.Unless.{unless}
use Rattle.kind.specs.declared.Kind.{Kind}
use Rattle.kind.specs.declared.Kind.TheVariants.{Overlap, Kinetic, Nuclear, Moment, Coulomb}
use Rattle.kind.specs.declared.refusals.Refusal.TheVariants.{WrongKind, InputNotFinite, Exponent, ResultNotFinite, PrimitiveCount, HostCount}
use Rattle.kind.specs.Refusals.{unplaced, without_place}
use Rattle.term.specs.Terms.{Term}
use Rattle.roll.specs.Reading.{Reading, got, refused, Roll, roll_at}
use Rattle.geometry.specs.Floats.{◌⊕◌, ◌⊗◌, zero as 0·0, all_finite}
use Rattle.geometry.specs.Checks.{exponents_above_zero, geometry_finite}
use Rattle.roll.specs.Field.{fault}
use Rattle.integrals.specs.Sums.{integral_of}
use Rattle.integrals.specs.Values.{Value, inputs_finite, refused_unless, result_of}
use Rattle.integrals.specs.Evaluation.{Answer}
use Rattle.contracting.specs.declared.Contracted.{Contracted}
use Rattle.contracting.specs.Pairs.{counted, Pair, Row, rows_of, all_pairs}

-- 1 unless the roll is of overlap or kinetic
unfoldable pub contracts : Kind → Bool
contracts Overlap = true
contracts Kinetic = true
contracts Nuclear = false
contracts Moment = false
contracts Coulomb = false

-- The plain evaluation of a pair, its checks and its value. These kinds use nothing of C and D, where A and B stand again, and no Boys numbers (D-18, D-21).
-- Norms and coefficients count as used floats.
unfoldable pub pair_finite : Kind → Pair → Bool
pair_finite k p =
    let a = p.left in
    let b = p.right in
    inputs_finite k a.centre b.centre a.centre b.centre p.aux []
    && all_finite (a.norm ∷ b.norm ∷ a.coefficient ∷ b.coefficient ∷ [])

unfoldable pub pair_above_zero : Kind → Pair → Bool
pair_above_zero k p = exponents_above_zero k p.left.centre p.right.centre p.left.centre p.right.centre

unfoldable pub pair_geometry : Kind → Pair → Bool
pair_geometry k p = geometry_finite k p.left.centre p.right.centre p.left.centre p.right.centre

unfoldable pub pair_value : Kind → ℕ → List Term → Pair → Float
pair_value k l ts p = integral_of k l p.left.centre p.right.centre p.left.centre p.right.centre p.aux [] ts

-- each primitive value is multiplied by the product of both norms, left norm first, and that by the left coefficient: ca · ((na · nb) · v) (D-111)
unfoldable pub share_of : (Pair → Float) → Pair → Float
share_of v p = p.left.coefficient ⊗ (p.left.norm ⊗ p.right.norm ⊗ v p)

-- the inner sum, over the left function, starts at 0.0
unfoldable pub inner_from : (Pair → Float) → List Pair → Float → Float
inner_from v [] sum = sum
inner_from v (p ∷ ps) sum = inner_from v ps (sum ⊕ share_of v p)

unfoldable pub inner_of : (Pair → Float) → Row → Float
inner_of v row = inner_from v row.pairs 0·0

-- the outer sum, over the right function, starts at 0.0; each inner sum is multiplied by the right coefficient
unfoldable pub outer_from : (Pair → Float) → List Row → Float → Float
outer_from v [] sum = sum
outer_from v (row ∷ rows) sum = outer_from v rows (sum ⊕ row.right.coefficient ⊗ inner_of v row)

unfoldable pub element_of : (Pair → Float) → List Row → Float
element_of v rows = outer_from v rows 0·0

-- 8, 9, 11, each over all pairs before the next; the sums are results (D-112)
unfoldable pub checked_of : Kind → ℕ → List Term → List Row → Value
checked_of k l ts rows =
    let v = pair_value k l ts in
    refused_unless (list_all (pair_finite k) (all_pairs rows)) InputNotFinite
    (refused_unless (list_all (pair_above_zero k) (all_pairs rows)) Exponent
    (refused_unless (list_all (pair_geometry k) (all_pairs rows)) ResultNotFinite
    (refused_unless (list_all (λ (p : Pair). finite (v p)) (all_pairs rows)) ResultNotFinite
    (refused_unless (list_all (λ (row : Row). finite (inner_of v row)) rows) ResultNotFinite
    (result_of (element_of v rows))))))

-- 1 right after 7 or 14, which have their place
unfoldable pub of_roll : Reading Roll → List Row → Answer
of_roll (got roll end) rows = without_place (refused_unless (contracts roll.kind) WrongKind (checked_of roll.kind (total roll.orders) roll.terms rows))
of_roll (refused r place) rows = Err (fault r place)

-- 15, then 16, both before 7
unfoldable pub contracted_of : List ℕ → Contracted → Contracted → List Float → Answer
contracted_of s left right host =
    unless (counted left.count && counted right.count) (Err (unplaced PrimitiveCount))
    (unless (eqb (length host) (left.count * right.count)) (Err (unplaced HostCount))
    (of_roll (roll_at s) (rows_of left right host)))
