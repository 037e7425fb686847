-- 01, "Limits and refusal numbers": J and K are refused 12, 8 or 11, in this order, or both written.
use Rattle.std.specs.Prelude.{ℕ, ◌^◌, Bool, ◌&&◌, List, leb, eqb, Float, length, Result, Ok, Err}
use Rattle.laws.specs.Unless.{unless}
use Rattle.kind.specs.Limits.{most_size}
use Rattle.kind.specs.declared.refusals.Refusal.{Refusal}
use Rattle.kind.specs.declared.refusals.Refusal.TheVariants.{InputNotFinite, ResultNotFinite, MatrixSize}
use Rattle.geometry.specs.Floats.{all_finite}
use Rattle.jk.specs.declared.Matrix.TheVariants.{J, K}
use Rattle.jk.specs.Sums.{matrix_of}

-- both matrices are written, or why not
abbrev pub Answer : Type 0
Answer = Result (Unit {0}) Refusal

-- what comes back, and what the two slices then hold
pub record Outcome : Type 0 where
  pub answer : Answer
  pub j : List Float
  pub k : List Float

abbrev pub outcome : Answer → List Float → List Float → Outcome
outcome a j k = record { answer = a; j = j; k = k }

-- I has n⁴ floats, D, J and K have n² (D-7)
unfoldable pub long_of : ℕ → ℕ → ℕ → ℕ → ℕ → Bool
long_of n i d j k = eqb i (n ^ 4) && (eqb d (n ^ 2) && (eqb j (n ^ 2) && eqb k (n ^ 2)))

-- and n is from 1 to 16
unfoldable pub sized_of : ℕ → ℕ → ℕ → ℕ → ℕ → Bool
sized_of n i d j k = leb 1 n && (leb n most_size && long_of n i d j k)

-- a refusal leaves both slices as they were
abbrev pub refused : Refusal → List Float → List Float → Outcome
refused why j k = outcome (Err why) j k

-- 11 where an entry of J or of K is not finite
unfoldable pub summed_of : ℕ → List Float → List Float → List Float → List Float → Outcome
summed_of n i d j k =
    unless (all_finite (matrix_of J n i d) && all_finite (matrix_of K n i d)) (refused ResultNotFinite j k)
    (outcome (Ok tt) (matrix_of J n i d) (matrix_of K n i d))

-- J and K: 12, 8, 11
unfoldable pub jk_of : ℕ → List Float → List Float → List Float → List Float → Outcome
jk_of n i d j k =
    unless (sized_of n (length i) (length d) (length j) (length k)) (refused MatrixSize j k)
    (unless (all_finite i && all_finite d) (refused InputNotFinite j k)
    (summed_of n i d j k))
