-- Sums over sigma and over lambda go on from where they stand.
use Prim.Native.Nat.{ℕ, suc, ◌+◌, ◌*◌, ◌-◌, ◌<◌, ◌≤◌}
use mathlib.Core.Path.{◌≡◌, refl, ◌∙◌}
use mathlib.Core.List.{List}
use native.Mathlib.Numerals.{add-one}
use lib.Ieee.{Float, nan}
use lib.ListN.{get_or}
use Rattle.laws.proofs.Counting.{left_one, left-none}
use Rattle.geometry.specs.Floats.{◌⊕◌, ◌⊗◌}
use Rattle.jk.specs.declared.Matrix.{Matrix}
use Rattle.jk.specs.declared.Matrix.TheVariants.{J, K}
use Rattle.jk.specs.Sums.{over_sigma, over_lambda, product}
use Rattle.jk.specs.inner.Rows.{row_of}

-- a row of I and a row of D
abbrev pub pairs : List Float → List Float → ℕ → ℕ → ℕ → Float
pairs i d at of s = get_or i (at + s) nan ⊗ get_or d (of + s) nan

module _ (i d : List Float) (at of n s : ℕ) (sum whole : Float) where
  pub sigma-more : s < n → over_sigma (pairs i d at of) (n - s) s sum ≡ whole → over_sigma (pairs i d at of) (n - (s + 1)) (s + 1) (sum ⊕ pairs i d at of s) ≡ whole
  unfolding over_sigma
  sigma-more h e = rw (add-one s) (rw (left_one n s h, add-one s) at e)

  pub sigma-done : n ≤ s → over_sigma (pairs i d at of) (n - s) s sum ≡ whole → sum ≡ whole
  unfolding over_sigma
  sigma-done h e = rw (left-none n s h) at e

-- a row of products is a row of I times a row of D
row_is : (m : Matrix) (i d : List Float) (mu nu n l left : ℕ) (sum : Float) → over_sigma (pairs i d (row_of m n mu nu l * n) (l * n)) left 0 sum ≡ over_sigma (product m n i d mu nu l) left 0 sum
unfolding row_of product
row_is J i d mu nu n l left sum = refl
row_is K i d mu nu n l left sum = refl

module _ (m : Matrix) (i d : List Float) (mu nu n l : ℕ) (sum whole : Float) where
  pub lambda-more : (at : ℕ) (next : Float) → l < n → over_lambda (product m n i d mu nu) n (n - l) l sum ≡ whole → at ≡ row_of m n mu nu l → next ≡ over_sigma (pairs i d (at * n) (l * n)) n 0 sum → over_lambda (product m n i d mu nu) n (n - (l + 1)) (l + 1) next ≡ whole
  unfolding over_lambda
  lambda-more at next h e f g =
      let entered : over_lambda (product m n i d mu nu) n (n - suc l) (suc l) (over_sigma (product m n i d mu nu l) n 0 sum) ≡ whole = rw (left_one n l h, add-one l) at e in
      let summed : next ≡ over_sigma (product m n i d mu nu l) n 0 sum = g ∙ rw f (row_is m i d mu nu n l n sum) in
      rw (add-one l, summed) entered

  pub lambda-done : n ≤ l → over_lambda (product m n i d mu nu) n (n - l) l sum ≡ whole → sum ≡ whole
  unfolding over_lambda
  lambda-done h e = rw (left-none n l h) at e
