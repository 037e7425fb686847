-- Numbers: what is left for a loop that counts, places in rows, powers as products, and what fits a word.
use Prim.Native.Nat.{ℕ, suc, ◌+◌, ◌*◌, ◌-◌, ◌^◌, ◌≤◌, ◌<◌}
use mathlib.Core.Path.{◌≡◌, ap, ◌∙◌}
use native.Mathlib.Nat.{suc-mul, mul-le-mul_right, pow-suc, pow-zero, one-mul, mul_assoc}
use native.Mathlib.Omega.{arith}
use mir.Syntax.{w64}
use mir.Val.{Fits}

-- how much is left of n after k
pub left_one : (n k : ℕ) → k < n → n - k ≡ suc (n - (k + 1))
left_one n k h = omega arith

pub left-none : (n k : ℕ) → n ≤ k → n - k ≡ 0
left-none n k h = omega arith

-- row x of m rows, of n places each
pub row_room : (m n x : ℕ) → x < m → x * n + n ≤ m * n
row_room m n x h = rw (← suc-mul x n) (mul-le-mul_right n h)

pub place-below : (m n x y : ℕ) → x < m → y < n → x * n + y < m * n
place-below m n x y h k = omega (arith, row_room m n x h)

pub pow-two : (n : ℕ) → n ^ 2 ≡ n * n
pow-two n = pow-suc n 1 ∙ ap (λ (x : ℕ). x * n) (pow-suc n 0 ∙ ap (λ (x : ℕ). x * n) (pow-zero n) ∙ one-mul n)

pub pow-four : (n : ℕ) → n ^ 4 ≡ n * n * (n * n)
pow-four n = pow-suc n 3 ∙ ap (λ (x : ℕ). x * n) (pow-suc n 2 ∙ ap (λ (x : ℕ). x * n) (pow-two n)) ∙ mul_assoc (n * n) n n

pub fits_below : (k : ℕ) {x : ℕ} → x ≤ k → k < 2 ^ 64 → Fits w64 x
fits_below k h p = record { fits = omega arith }
