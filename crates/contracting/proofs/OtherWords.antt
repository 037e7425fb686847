-- The definition in other words: what it looks at, in which order, and how a host goes through an element step by step.
use Prim.Native.Nat.{ℕ, zero, suc, ◌+◌, ◌*◌, ◌<◌}
use mathlib.Core.Path.{◌≡◌, refl, ◌∙◌}
use mathlib.Core.Bool.{◌&&◌}
use mathlib.Core.List.{List, [], ◌∷◌, ◌++◌}
use native.Mathlib.Nat.{not-suc-le-zero, le_of_suc-le-suc, zero-add, add-zero}
use native.Mathlib.Omega.{arith}
use lib.Dec.{eqb}
use lib.Ieee.{Float}
use lib.ListN.{length, get_or}
use Rattle.geometry.specs.Floats.{◌⊕◌, ◌⊗◌, zero as 0·0}
use Rattle.laws.specs.Unless.{unless}
use Rattle.std.specs.Prelude.{Err}
use Rattle.kind.specs.declared.refusals.Refusal.TheVariants.{PrimitiveCount, HostCount}
use Rattle.kind.specs.Refusals.{unplaced}
use Rattle.roll.specs.Reading.{roll_at}
use Rattle.contracting.specs.declared.Primitive.{Primitive}
use Rattle.contracting.specs.declared.Contracted.{Contracted}
use Rattle.contracting.specs.Pairs.{counted, primitives_of, Pair, Row, pairs_with, rows_from, rows_of}
use Rattle.contracting.specs.Elements.{share_of, inner_from, inner_of, outer_from, element_of, of_roll, contracted_of}

-- what lies beyond the count is not looked at
pub beyond-the-count : (s : List ℕ) (f g f' g' : Contracted) (host : List Float) → f.count ≡ f'.count → primitives_of f ≡ primitives_of f' → g.count ≡ g'.count → primitives_of g ≡ primitives_of g' → contracted_of s f g host ≡ contracted_of s f' g' host
unfolding contracted_of rows_of
beyond-the-count s f g f' g' host e p h q =
    let rows : rows_of f g host ≡ rows_of f' g' host = (λ i. rows_from host (p i) 0 (q i)) in
    λ i. unless (counted (e i) && counted (h i)) (Err (unplaced PrimitiveCount)) (unless (eqb (length host) (e i * h i)) (Err (unplaced HostCount)) (of_roll (roll_at s) (rows i)))

-- the pair of left i and right j has the host number at j · (left count) + i
module _ (host : List Float) where
  pair_place : (at : ℕ) (b : Primitive) (lefts : List Primitive) (i : ℕ) (d : Pair) → i < length lefts → (get_or (pairs_with host at b lefts) i d).aux ≡ get_or host (at + i) 0·0
  unfolding pairs_with
  pair_place at b [] i d h = absurd (not-suc-le-zero h)
  pair_place at b (a ∷ lefts) zero d h = rw (add-zero at)
  pair_place at b (a ∷ lefts) (suc i) d h =
      let next : suc at + i ≡ at + suc i = omega arith in
      pair_place (suc at) b lefts i d (le_of_suc-le-suc h) ∙ rw next

  row-place : (lefts : List Primitive) (k : ℕ) (rights : List Primitive) (j i : ℕ) (r : Row) (d : Pair) → j < length rights → i < length lefts → (get_or (get_or (rows_from host lefts k rights) j r).pairs i d).aux ≡ get_or host ((k + j) * length lefts + i) 0·0
  unfolding rows_from
  row-place lefts k [] j i r d h g = absurd (not-suc-le-zero h)
  row-place lefts k (b ∷ rights) zero i r d h g = rw (add-zero k) (pair_place (k * length lefts) b lefts i d g)
  row-place lefts k (b ∷ rights) (suc j) i r d h g =
      let next : suc k + j ≡ k + suc j = omega arith in
      row-place lefts (suc k) rights j i r d (le_of_suc-le-suc h) g ∙ rw next

  pub host-place : (lefts rights : List Primitive) (j i : ℕ) (r : Row) (d : Pair) → j < length rights → i < length lefts → (get_or (get_or (rows_from host lefts 0 rights) j r).pairs i d).aux ≡ get_or host (j * length lefts + i) 0·0
  host-place lefts rights j i r d h g = row-place lefts 0 rights j i r d h g ∙ rw (zero-add j)

-- a host may check step by step: the sum of a beginning, and what the last one adds
module _ (v : Pair → Float) where
  inner-then : (ps : List Pair) (p : Pair) (sum : Float) → inner_from v (ps ++ (p ∷ [])) sum ≡ inner_from v ps sum ⊕ share_of v p
  unfolding inner_from
  inner-then [] p sum = refl
  inner-then (q ∷ ps) p sum = inner-then ps p (sum ⊕ share_of v q)

  outer-then : (rows : List Row) (row : Row) (sum : Float) → outer_from v (rows ++ (row ∷ [])) sum ≡ outer_from v rows sum ⊕ row.right.coefficient ⊗ inner_from v row.pairs 0·0
  unfolding outer_from inner_of
  outer-then [] row sum = refl
  outer-then (first ∷ rows) row sum = outer-then rows row (sum ⊕ first.right.coefficient ⊗ inner_from v first.pairs 0·0)

  module _ (host : List Float) (lefts : List Primitive) where
    rows_then : (j : ℕ) (rights : List Primitive) (b : Primitive) → rows_from host lefts j (rights ++ (b ∷ [])) ≡ rows_from host lefts j rights ++ (record { right = b; pairs = pairs_with host ((j + length rights) * length lefts) b lefts } ∷ [])
    unfolding rows_from
    rows_then j [] b = rw (add-zero j)
    rows_then j (first ∷ rights) b =
        let next : suc j + length rights ≡ j + suc (length rights) = omega arith in
        rw (rows_then (suc j) rights b, next)

    -- with one right primitive more, the element is the one before plus that primitive's coefficient times its inner sum
    pub step-by-step : (rights : List Primitive) (b : Primitive) → element_of v (rows_from host lefts 0 (rights ++ (b ∷ []))) ≡ element_of v (rows_from host lefts 0 rights) ⊕ b.coefficient ⊗ inner_from v (pairs_with host (length rights * length lefts) b lefts) 0·0
    unfolding element_of
    step-by-step rights b = rw (rows_then 0 rights b, zero-add (length rights)) (outer-then (rows_from host lefts 0 rights) (record { right = b; pairs = pairs_with host (length rights * length lefts) b lefts }) 0·0)
