-- 02, Q-3: J and K where nothing is mirrored. J is symmetric where I is; K need not be, bit for bit.
use Rattle.std.specs.Prelude.{ℕ, ◌<◌, ◌≡◌, List, Float}
use Rattle.jk.specs.Sums.{at2, at4}

-- I is the same at (mu, nu, ..) and at (nu, mu, ..). Each product of J at (mu, nu) then is the same pair of numbers in the same order as at (nu, mu), whatever D is.
-- For K no such premise does it: with all symmetries of I and D, K at (nu, mu) has the products of K at (mu, nu) with sigma outer and lambda inner, and a sum's rounding goes by its order.
abbrev pub AlikeInFirstTwo : ℕ → List Float → Type 0
AlikeInFirstTwo n i = (mu nu lambda sigma : ℕ) → mu < n → nu < n → lambda < n → sigma < n → at4 n i mu nu lambda sigma ≡ at4 n i nu mu lambda sigma

-- a matrix row by row that is the same across its diagonal
abbrev pub Symmetric : ℕ → List Float → Type 0
Symmetric n m = (mu nu : ℕ) → mu < n → nu < n → at2 n m mu nu ≡ at2 n m nu mu
