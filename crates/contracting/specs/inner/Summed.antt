-- Inside the crate: what is not finite stays so in every product and sum after it, so one look at the element serves for all of 11.
use Rattle.std.specs.Prelude.{ℕ, ◌*◌, ◌≡◌, Bool, true, ◌&&◌, cond, List, [], ◌∷◌, ◌++◌, Float, length, Option, Some, None, Err}
use Rattle.std.specs.List.{list_all}
use Rattle.std.specs.Float.{binary64}
use Rattle.std.specs.Float.Ieee.{of_bits}
use Rattle.term.specs.Terms.{Term}
use Rattle.kind.specs.declared.Kind.{Kind}
use Rattle.kind.specs.declared.refusals.Refusal.TheVariants.{WrongKind, BadRoll}
use Rattle.geometry.specs.Floats.{above_zero, all_finite}
use Rattle.geometry.specs.Checks.{whole}
use Rattle.roll.specs.declared.cursor.Cursor.{Cursor}
use Rattle.integrals.specs.Values.{Value, refused_unless}
use Rattle.integrals.specs.inner.Stored.{again_from}
use Rattle.contracting.specs.declared.Primitive.{Primitive}
use Rattle.contracting.specs.Pairs.{counted, Pair, Row}
use Rattle.contracting.specs.Elements.{contracts, pair_geometry, pair_value, checked_of}

-- the six floats of a primitive
abbrev pub floats_of : Primitive → List Float
floats_of p = whole p.centre ++ (p.norm ∷ p.coefficient ∷ [])

unfoldable pub finite_primitive : Primitive → Bool
finite_primitive p = all_finite (floats_of p)

unfoldable pub above_primitive : Primitive → Bool
above_primitive p = above_zero p.centre.exponent

-- checks 8 and 9, a primitive at a time
unfoldable pub all_finite_of : List Primitive → List Primitive → List Float → Bool
all_finite_of lefts rights host = list_all finite_primitive lefts && (list_all finite_primitive rights && all_finite host)

unfoldable pub all_above_of : List Primitive → List Primitive → Bool
all_above_of lefts rights = list_all above_primitive lefts && list_all above_primitive rights

-- the value of a pair whose geometry numbers and table are finite, else an infinity
abbrev pub infinity : Float
infinity = of_bits binary64 0x7ff0_0000_0000_0000

unfoldable pub kept_value : Kind → ℕ → List Term → Pair → Float
kept_value k l ts p = cond (pair_geometry k p) (pair_value k l ts p) infinity

-- what stands before the roll is judged: both counts, and the host list's length
pub record PairsMay (lefts rights : List Primitive) (host : List Float) : Type 0 where
  pub left_counted : counted (length lefts) ≡ true
  pub right_counted : counted (length rights) ≡ true
  pub hosts : length host ≡ length lefts * length rights

-- the answer from a cursor on; a cursor that the judge gives has a kind (D-63)
unfoldable pub of_cursor : Option Kind → Cursor → List ℕ → List Row → Value
of_cursor (Some k) cursor s rows = refused_unless (contracts k) WrongKind (checked_of k cursor.l (again_from s cursor) rows)
of_cursor None cursor s rows = Err BadRoll
