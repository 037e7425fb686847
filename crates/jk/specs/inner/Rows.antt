-- How the code goes over the rows of I, and over the places of a matrix.
use Rattle.std.specs.Prelude.{ℕ, ◌+◌, ◌*◌, ◌/◌, ◌%◌, ◌≤◌, ◌<◌, ◌≡◌, List, Float, length, get_or}
use Rattle.std.specs.Float.{nan}
use Rattle.kind.specs.Limits.{most_size}
use Rattle.jk.specs.declared.Matrix.{Matrix}
use Rattle.jk.specs.declared.Matrix.TheVariants.{J, K}
use Rattle.jk.specs.Sums.{entry_of}

-- the row of I that an entry sums over sigma
unfoldable pub row_of : Matrix → ℕ → ℕ → ℕ → ℕ → ℕ
row_of J n mu nu lambda = (mu * n + nu) * n + lambda
row_of K n mu nu lambda = (mu * n + lambda) * n + nu

-- the rows of I of the largest size
abbrev pub most_rows : ℕ
most_rows = most_size * most_size * most_size

-- what check 12 leaves of the size and of the slices that are read
pub record ShapedMay (n : ℕ) (i d : List Float) : Type 0 where
  pub some : 0 < n
  pub small : n ≤ most_size
  pub whole : length i ≡ n * n * n * n
  pub square : length d ≡ n * n

-- the first p entries of the matrix stand
pub record UpTo (m : Matrix) (n : ℕ) (i d done : List Float) (p : ℕ) : Type 0 where
  pub room : length done ≡ most_size * most_size
  pub stands : (q : ℕ) → q < p → get_or done q nan ≡ entry_of m n i d (q / n) (q % n)
