-- 02, Q-1: two contracted functions of one to ten primitives each, their pairs, and the host's number of each pair.
use Rattle.std.specs.Prelude.{ℕ, suc, ◌*◌, Bool, ◌&&◌, List, [], ◌∷◌, ◌++◌, leb, Float, length, get_or, take}
use Rattle.geometry.specs.Floats.{zero as 0·0}
use Rattle.contracting.specs.declared.Primitive.{Primitive}
use Rattle.contracting.specs.declared.Contracted.{Contracted}

-- one to ten primitives each
abbrev pub most_primitives : ℕ
most_primitives = 10

unfoldable pub counted : ℕ → Bool
counted n = leb 1 n && leb n most_primitives

-- what lies beyond the count is not looked at (D-110)
unfoldable pub primitives_of : Contracted → List Primitive
primitives_of f = take f.count f.primitives

-- a left and a right primitive, and the host number of the two
pub record Pair : Type 0 where
  pub left : Primitive
  pub right : Primitive
  pub aux : Float

-- a right primitive, and its pairs
pub record Row : Type 0 where
  pub right : Primitive
  pub pairs : List Pair

-- a right primitive with the left ones in order, their host numbers from a place on
unfoldable pub pairs_with : List Float → ℕ → Primitive → List Primitive → List Pair
pairs_with host at b [] = []
pairs_with host at b (a ∷ lefts) = record { left = a; right = b; aux = get_or host at 0·0 } ∷ pairs_with host (suc at) b lefts

-- the right function is outer: the host numbers of its primitive j stand from j · (left count) on
unfoldable pub rows_from : List Float → List Primitive → ℕ → List Primitive → List Row
rows_from host lefts j [] = []
rows_from host lefts j (b ∷ rights) = record { right = b; pairs = pairs_with host (j * length lefts) b lefts } ∷ rows_from host lefts (suc j) rights

unfoldable pub rows_of : Contracted → Contracted → List Float → List Row
rows_of left right host = rows_from host (primitives_of left) 0 (primitives_of right)

-- all pairs
unfoldable pub all_pairs : List Row → List Pair
all_pairs [] = []
all_pairs (row ∷ rows) = row.pairs ++ all_pairs rows
