-- Squares of whole numbers: the order of squares is that of their roots, so a number has one whole root; and a digit more, or as many more
-- as there are, of a root that is at hand. Nothing here is about floats.
use mathlib.Core.Path.{◌≡◌, ap, subst}
use Prim.Native.Nat.{ℕ, ◌+◌, ◌-◌, ◌*◌, ◌≤◌, ◌<◌}
use native.Mathlib.Nat.{lt_of_le_of_lt, lt_of_not-le, not-le_of_lt, le_antisymm, mul-one, mul_comm, mul_assoc, mul_left_comm, mul-mul-mul_comm, mul-le-mul, mul-le-mul_left, mul-le-mul_right, mul-lt-mul_of_pos_right, add-mul, mul-add}
use native.Mathlib.Omega.{arith}

-- ---- the order of squares
pub root-less : (a b : ℕ) → a * a < b * b → a < b
root-less a b h = lt_of_not-le (λ (g : b ≤ a). not-le_of_lt h (mul-le-mul g g))

pub squares-less : (a b : ℕ) → a < b → a * a < b * b
squares-less a b h = lt_of_le_of_lt (mul-le-mul_left a (weak h)) (mul-lt-mul_of_pos_right h (above h))
  where
    weak : a < b → a ≤ b
    weak h = omega arith

    above : a < b → 0 < b
    above h = omega arith

pub square-sum : (a b : ℕ) → (a + b) * (a + b) ≡ a * a + 2 * (a * b) + b * b
square-sum a b = omega (arith, add-mul a b (a + b), mul-add a a b, mul-add b a b, mul_comm b a)

pub square-next : (a : ℕ) → (a + 1) * (a + 1) ≡ a * a + 2 * a + 1
square-next a = omega (arith, square-sum a 1, mul-one a)

pub square-twice : (a : ℕ) → 2 * a * (2 * a) ≡ 4 * (a * a)
square-twice a = omega (arith, mul_assoc 2 a (2 * a), mul_left_comm a 2 a)

pub square-odd : (a : ℕ) → (2 * a + 1) * (2 * a + 1) ≡ 4 * (a * a) + 4 * a + 1
square-odd a = omega (arith, square-next (2 * a), square-twice a)

-- ---- the whole root of n, with what is left
up-to-next : (q r : ℕ) → r ≤ 2 * q → q * q + r < (q + 1) * (q + 1)
up-to-next q r h = omega (arith, square-next q)

pub at_most : (a b : ℕ) → a < b + 1 → a ≤ b
at_most a b h = omega arith

pub root-least : (c q r n : ℕ) → q * q + r ≡ n → r ≤ 2 * q → c * c ≤ n → c ≤ q
root-least c q r n e s h = at_most c q (root-less c (q + 1) (lt_of_le_of_lt h (subst (λ (x : ℕ). x < (q + 1) * (q + 1)) e (up-to-next q r s))))

pub root-most : (c q r n : ℕ) → q * q + r ≡ n → n < c * c → q < c
root-most c q r n e h = root-less q c (below (q * q) r n (c * c) e h)
  where
    below : (a b m d : ℕ) → a + b ≡ m → m < d → a < d
    below a b m d e h = omega arith

-- one number has one whole root
pub one-root : (n v w : ℕ) → v * v ≤ n → n < (v + 1) * (v + 1) → w * w ≤ n → n < (w + 1) * (w + 1) → v ≡ w
one-root n v w a b c d =
    le_antisymm (at_most v w (root-less v (w + 1) (lt_of_le_of_lt a d))) (at_most w v (root-less w (v + 1) (lt_of_le_of_lt c b)))

-- ---- a digit more
pub digit-more : (q r n p : ℕ) → q * q + r ≡ n → 4 * q + 1 ≤ 4 * r + p → (2 * q + 1) * (2 * q + 1) + (4 * r + p - (4 * q + 1)) ≡ 4 * n + p
digit-more q r n p e h = omega (arith, square-odd q)

pub digit-same : (q r n p : ℕ) → q * q + r ≡ n → 2 * q * (2 * q) + (4 * r + p) ≡ 4 * n + p
digit-same q r n p e = omega (arith, square-twice q)

-- ---- as many digits more as a base has zeros: q more, with u over, by one division by twice the root
module _ (w r b c d q u : ℕ) (divides : q * (2 * w) + u ≡ r * b + c) where
  pub further-square : (w * b + q) * (w * b + q) + (u * b + d) ≡ (w * w + r) * (b * b) + (c * b + d) + q * q
  further-square =
      let whole = square-sum (w * b) q in
      let first : w * b * (w * b) ≡ w * w * (b * b) = mul-mul-mul_comm w b w b in
      let left : (q * (2 * w) + u) * b ≡ (r * b + c) * b = ap (λ (x : ℕ). x * b) divides in
      let twice : q * (2 * w) * b ≡ 2 * (w * b * q) = simp (mul_assoc, mul_comm, mul_left_comm) in
      let second : r * b * b ≡ r * (b * b) = mul_assoc r b b in
      omega (arith, add-mul (q * (2 * w)) u b, add-mul (r * b) c b, add-mul (w * w) r (b * b))

  -- what is over is below twice the root
  pub further-short : u < 2 * w → d < b → u * b + d < 2 * (w * b)
  further-short h l = short (u * b) (w * b) (omega (arith, add-mul u 1 b, mul_assoc 2 w b, mul-le-mul_right b (h')))
    where
      h' : u + 1 ≤ 2 * w
      h' = omega arith

      short : (x y : ℕ) → x + b ≤ 2 * y → x + d < 2 * y
      short x y g = omega arith

  pub further-digits : 0 < w → r ≤ 2 * w → c < b → b ≤ 2 * w → q ≤ b
  further-digits z s l g =
      at_most q b (root-of-product)
    where
      bound : q * (2 * w) < (b + 1) * (2 * w)
      bound = omega (arith, divides, add-mul b 1 (2 * w), mul-le-mul_right b s, mul_comm b (2 * w))

      root-of-product : q < b + 1
      root-of-product = lt_of_not-le (λ (k : b + 1 ≤ q). not-le_of_lt bound (mul-le-mul_right (2 * w) k))

-- one less
pub one_less : (v : ℕ) → 0 < v → (v - 1) * (v - 1) + (2 * v - 1) ≡ v * v
one_less v h = subst (λ (x : ℕ). (v - 1) * (v - 1) + (2 * v - 1) ≡ x * x) back (omega (arith, square-next (v - 1)))
  where
    back : v - 1 + 1 ≡ v
    back = omega arith
