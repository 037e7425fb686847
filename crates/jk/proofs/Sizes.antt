-- Sizes: every number stays small, and every row is one of I or of D.
use Prim.Native.Nat.{ℕ, ◌+◌, ◌*◌, ◌<◌, ◌≤◌}
use mathlib.Core.Path.{◌≡◌}
use native.Mathlib.Nat.{mul-le-mul}
use native.Mathlib.Omega.{arith}
use mathlib.Core.List.{List}
use lib.Ieee.{Float}
use lib.ListN.{length}
use lib.Dec.{lit<}
use mir.Syntax.{w64}
use mir.Val.{Fits}
use Rattle.laws.proofs.Counting.{row_room, place-below, fits_below}
use Rattle.kind.specs.Limits.{most_size}
use Rattle.jk.specs.inner.Rows.{row_of, most_rows, ShapedMay}
use Rattle.jk.specs.declared.Matrix.{Matrix}
use Rattle.jk.specs.declared.Matrix.TheVariants.{J, K}

pub square-small : (n : ℕ) → n ≤ most_size → n * n ≤ most_size * most_size
square-small n h = mul-le-mul h h

pub square-fits : (n : ℕ) → n ≤ most_size → Fits w64 (n * n)
square-fits n h = fits_below (most_size * most_size) (square-small n h) (lit< tt)

pub fourth-fits : (n : ℕ) → n ≤ most_size → Fits w64 (n * n * (n * n))
fourth-fits n h = fits_below (most_size * most_size * (most_size * most_size)) (mul-le-mul (square-small n h) (square-small n h)) (lit< tt)

pub place-fits : (n x : ℕ) → n ≤ most_size → x ≤ most_rows → Fits w64 (x * n)
place-fits n x h p = fits_below (most_rows * most_size) (mul-le-mul p h) (lit< tt)

-- every row that an entry sums is one of I
pub row_below : (m : Matrix) (n mu nu lambda : ℕ) → mu < n → nu < n → lambda < n → row_of m n mu nu lambda < n * n * n
unfolding row_of
row_below J n mu nu lambda h p q = place-below (n * n) n (mu * n + nu) lambda (place-below n n mu nu h p) q
row_below K n mu nu lambda h p q = place-below (n * n) n (mu * n + lambda) nu (place-below n n mu lambda h q) p

-- what an entry asks for the row of one lambda
module _ (m : Matrix) (i d : List Float) (n mu nu l at : ℕ) where
  pub row_fits : ShapedMay n i d → at ≡ row_of m n mu nu l → mu < n → nu < n → l < n → Fits w64 (at * n)
  row_fits s e h p q =
      place-fits n at s.small (omega (arith, row_below m n mu nu l h p q, mul-le-mul (square-small n s.small) s.small))

  pub whole_room : ShapedMay n i d → at ≡ row_of m n mu nu l → mu < n → nu < n → l < n → at * n + n ≤ length i
  whole_room s e h p q = rw s.whole (row_room (n * n * n) n at (rw e (row_below m n mu nu l h p q)))

module _ (i d : List Float) (n l : ℕ) where
  pub square-room : ShapedMay n i d → l < n → l * n + n ≤ length d
  square-room s h = rw s.square (row_room n n l h)
