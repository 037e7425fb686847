-- 02, Q-3: J and K entry by entry, as JK_direct of basis.rs sums them. 01, "Numbers": slices are row by row.
use Rattle.std.specs.Prelude.{ℕ, zero, suc, ◌+◌, ◌*◌, ◌/◌, ◌%◌, List, [], ◌∷◌, Float, get_or}
use Rattle.std.specs.Float.{nan}
use Rattle.geometry.specs.Floats.{◌⊕◌, ◌⊗◌, zero as 0·0}
use Rattle.jk.specs.declared.Matrix.{Matrix}
use Rattle.jk.specs.declared.Matrix.TheVariants.{J, K}

-- D at (lambda, sigma), I at (p, q, r, s)
abbrev pub at2 : ℕ → List Float → ℕ → ℕ → Float
at2 n d lambda sigma = get_or d (lambda * n + sigma) nan

abbrev pub at4 : ℕ → List Float → ℕ → ℕ → ℕ → ℕ → Float
at4 n i p q r s = get_or i (((p * n + q) * n + r) * n + s) nan

-- J sums I at (mu, nu, lambda, sigma), K sums I at (mu, lambda, nu, sigma), each times D at (lambda, sigma)
unfoldable pub product : Matrix → ℕ → List Float → List Float → ℕ → ℕ → ℕ → ℕ → Float
product J n i d mu nu lambda sigma = at4 n i mu nu lambda sigma ⊗ at2 n d lambda sigma
product K n i d mu nu lambda sigma = at4 n i mu lambda nu sigma ⊗ at2 n d lambda sigma

-- sigma inner: so many products from sigma on are added to the sum
unfoldable pub over_sigma : (ℕ → Float) → ℕ → ℕ → Float → Float
over_sigma f zero sigma sum = sum
over_sigma f (suc left) sigma sum = over_sigma f left (suc sigma) (sum ⊕ f sigma)

-- lambda outer
unfoldable pub over_lambda : (ℕ → ℕ → Float) → ℕ → ℕ → ℕ → Float → Float
over_lambda f n zero lambda sum = sum
over_lambda f n (suc left) lambda sum = over_lambda f n left (suc lambda) (over_sigma (f lambda) n 0 sum)

-- every entry at (mu, nu) is summed on its own, from 0.0
unfoldable pub entry_of : Matrix → ℕ → List Float → List Float → ℕ → ℕ → Float
entry_of m n i d mu nu = over_lambda (product m n i d mu nu) n n 0 0·0

-- so many values of a function, from p on
unfoldable pub list_from : (ℕ → Float) → ℕ → ℕ → List Float
list_from f zero p = []
list_from f (suc left) p = f p ∷ list_from f left (suc p)

-- a matrix row by row
unfoldable pub matrix_of : Matrix → ℕ → List Float → List Float → List Float
matrix_of m n i d = list_from (λ (p : ℕ). entry_of m n i d (p / n) (p % n)) (n * n) 0
