-- Finite floats: of lists in two parts, and beside zeros.
use Prim.Native.Nat.{ℕ, zero, suc}
use mathlib.Core.Path.{◌≡◌, refl}
use mathlib.Core.Bool.{true, ◌&&◌, and-true}
use mathlib.Core.List.{List, ◌++◌}
use lib.Ieee.{Float, of_bits}
use lib.Ieee.Scale.{finite}
use lib.ListN.{replicate}
use Rattle.std.proofs.lemmas.List.Folds.{list_all-append}
use Rattle.geometry.specs.Floats.{all_finite, in_places, zero as 0·0}

pub finite-both : (xs ys : List Float) → all_finite (xs ++ ys) ≡ all_finite xs && all_finite ys
unfolding all_finite
finite-both xs ys = list_all-append finite xs ys

-- zeros change nothing
pub finite-zeros : (n : ℕ) → all_finite (replicate n 0·0) ≡ true
unfolding all_finite of_bits
finite-zeros zero = refl
finite-zeros (suc n) = finite-zeros n

pub finite-places : (n : ℕ) (xs : List Float) → all_finite (in_places n xs) ≡ all_finite xs
finite-places n xs = rw (finite-both, finite-zeros) (and-true (all_finite xs))
