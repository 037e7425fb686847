-- The definition's whole root is one, and what it keeps, drops and rounds to is told by any number that is the same by a power of four.
use mathlib.Core.Path.{◌≡◌, refl, sym, ap, ◌∙◌, subst}
use mathlib.Core.Bool.{Bool, true, false, not, cond}
use Prim.Native.Nat.{ℕ, zero, suc, ◌+◌, ◌-◌, ◌*◌, ◌/◌, ◌^◌, ◌≤◌, ◌<◌, compare, Ordering}
use native.Mathlib.Nat.{le_trans, le_of_eq, le_antisymm, lt_of_lt_of_le, lt_of_le_of_lt, lt_of_not-le, not-le_of_lt, mul_assoc, mul-mul-mul_comm, mul-le-mul_right, mul-le-mul_left, mul-lt-mul_of_pos_right, mul-pos, le-add_right, pow-suc, pow-le-pow_left, le-div_iff_mul-le, div-lt_iff_lt-mul}
use native.Mathlib.Omega.{arith}
use native.Mathlib.Numerals.{add-one}
use lib.Dec.{T, is_le, compare_is_eq, leb, ltb, leb→le, nleb→lt, le→leb, eqb→eq, ltb→lt, nltb→le, lit≤}
use lib.Arith.{lt→nleb}
use lib.Pow.{pow-add, pow_pos, pow_mono}
use lib.Ieee.{size, nearest}
use lib.Ieee.Digits.{size-lt, size-le}
use Rattle.root.specs.Root.{square, one_digit_more, root_digits, whole_root, dropped, kept, rounded}
use Rattle.root.specs.declared.Part.{Part}
use Rattle.root.specs.inner.Digits.{hidden, nearer}
use Rattle.root.proofs.Squares.{root-less, square-odd, square-twice, square-next, at_most}

-- ---- the whole root
pub record Holds (n w : ℕ) : Type 0 where
  pub below : w * w ≤ n
  pub above : n < (w + 1) * (w + 1)

more : (n w : ℕ) → Holds (n / 4) w → Holds n (one_digit_more n w)
more n w h = go (leb (square (2 * w + 1)) n) (leb→le (square (2 * w + 1)) n) (nleb→lt (square (2 * w + 1)) n)
  where
    go : (t : Bool) → (T t → square (2 * w + 1) ≤ n) → (T (not t) → n < square (2 * w + 1)) → Holds n (cond t (2 * w + 1) (2 * w))
    go true a b = record { below = a tt; above = omega (arith, h.above, square-next (2 * w + 1), square-odd w, square-next w) }
    go false a b = record { below = omega (arith, h.below, square-twice w); above = b tt }

digits-hold : (d n : ℕ) → n < 4 ^ d → Holds n (root_digits d n)
unfolding root_digits
digits-hold zero n h = record { below = omega arith; above = omega arith }
digits-hold (suc d) n h = more n (root_digits d (n / 4)) (digits-hold d (n / 4) (quarter (4 ^ d) (subst (λ (x : ℕ). n < x) (pow-suc 4 d) h)))
  where
    quarter : (p : ℕ) → n < p * 4 → n / 4 < p
    quarter p h = omega arith

pub whole-holds : (n : ℕ) → Holds n (whole_root n)
unfolding whole_root
whole-holds n = digits-hold (size n) n (lt_of_lt_of_le (size-lt n) (pow-le-pow_left (lit≤ tt) (size n)))

-- ---- what compare says
orders-less : (a b : ℕ) → a < b → compare a b ≡ Ordering.lt
orders-less a b h = go (compare a b) (le→leb a b (weak h)) (λ t. irrefl h (eqb→eq a b t))
  where
    weak : a < b → a ≤ b
    weak h = omega arith

    irrefl : a < b → a ≡ b → ⊥
    irrefl h e = omega arith

    go : (o : Ordering) → T (is_le o) → (T (compare_is_eq o) → ⊥) → o ≡ Ordering.lt
    go Ordering.lt t n = refl
    go Ordering.eq t n = absurd (n tt)
    go Ordering.gt t n = absurd t

orders-more : (a b : ℕ) → b < a → compare a b ≡ Ordering.gt
orders-more a b h = go (compare a b) (lt→nleb a b h)
  where
    go : (o : Ordering) → T (not (is_le o)) → o ≡ Ordering.gt
    go Ordering.lt t = absurd t
    go Ordering.eq t = absurd t
    go Ordering.gt t = refl

-- ---- x is (root² + rest) · 4 ^ k, and root has 53 digits
pub record Digits (x k : ℕ) (p : Part) : Type 0 where
  pub same : (p.root * p.root + p.rest) * (2 ^ k * 2 ^ k) ≡ x
  pub short : p.rest ≤ 2 * p.root
  pub least : hidden ≤ p.root
  pub most : p.root < 2 * hidden

scaled-square : (a t : ℕ) → a * t * (a * t) ≡ a * a * (t * t)
scaled-square a t = mul-mul-mul_comm a t a t

module _ (x k : ℕ) (p : Part) (D : Digits x k p) where
  abbrev w : ℕ
  w = whole_root x

  power : 0 < 2 ^ k * 2 ^ k
  power = mul-pos (pow_pos k) (pow_pos k)

  from : p.root * 2 ^ k ≤ w
  from = at_most (p.root * 2 ^ k) w (root-less (p.root * 2 ^ k) (w + 1)
      (lt_of_le_of_lt
      (le_trans (le_of_eq (scaled-square p.root (2 ^ k))) (le_trans (mul-le-mul_right (2 ^ k * 2 ^ k) (le-add_right (p.root * p.root) p.rest)) (le_of_eq D.same)))
      (whole-holds x).above))

  under : (p.root * p.root + p.rest) < (p.root + 1) * (p.root + 1)
  under = omega (arith, square-next p.root)

  upto : w < (p.root + 1) * 2 ^ k
  upto = root-less w ((p.root + 1) * 2 ^ k)
      (lt_of_le_of_lt (whole-holds x).below
      (lt_of_le_of_lt (le_of_eq (sym D.same)) (lt_of_lt_of_le (mul-lt-mul_of_pos_right under power) (le_of_eq (sym (scaled-square (p.root + 1) (2 ^ k)))))))

  size_is : size w ≡ 53 + k
  size_is = le_antisymm
      (size-le w (53 + k) (lt_of_lt_of_le upto (le_trans (mul-le-mul_right (2 ^ k) (omega arith)) (le_of_eq (sym (pow-add 2 53 k))))))
      (at-most-back (lt_of_not-le (λ (g : size w ≤ 52 + k). not-le_of_lt (lt_of_lt_of_le (size-lt w) (pow_mono g)) (le_trans (le_of_eq (pow-add 2 52 k)) (le_trans (mul-le-mul_right (2 ^ k) D.least) from)))))
    where
      at-most-back : 52 + k < size w → 53 + k ≤ size w
      at-most-back h = omega arith

  pub dropped-is : dropped x ≡ k
  unfolding dropped
  dropped-is = ap (λ (z : ℕ). z - 53) size_is ∙ omega arith

  pub kept-is : kept x ≡ p.root
  unfolding kept
  kept-is = ap (λ (z : ℕ). w / 2 ^ z) dropped-is ∙ le_antisymm (at_most (w / 2 ^ k) p.root ((div-lt_iff_lt-mul (pow_pos k)).1 upto)) ((le-div_iff_mul-le (pow_pos k)).1 from)

  -- x lies between the squares of the two
  pub over_root : 4 * square (p.root * 2 ^ k) ≤ 4 * x
  over_root = mul-le-mul_left 4 (le_trans (le_of_eq (scaled-square p.root (2 ^ k))) (le_trans (mul-le-mul_right (2 ^ k * 2 ^ k) (le-add_right (p.root * p.root) p.rest)) (le_of_eq D.same)))

  pub under_next : 4 * x < 4 * square ((p.root + 1) * 2 ^ k)
  under_next = four-times x (square ((p.root + 1) * 2 ^ k)) (lt_of_le_of_lt (le_of_eq (sym D.same)) (lt_of_lt_of_le (mul-lt-mul_of_pos_right under power) (le_of_eq (sym (scaled-square (p.root + 1) (2 ^ k))))))
    where
      four-times : (a b : ℕ) → a < b → 4 * a < 4 * b
      four-times a b h = omega arith

  -- four times x against the square of twice the number halfway
  four : 4 * x ≡ 4 * (p.root * p.root + p.rest) * (2 ^ k * 2 ^ k)
  four = ap (λ (z : ℕ). 4 * z) (sym D.same) ∙ sym (mul_assoc 4 (p.root * p.root + p.rest) (2 ^ k * 2 ^ k))

  halfway : square ((2 * p.root + 1) * 2 ^ k) ≡ (4 * (p.root * p.root) + 4 * p.root + 1) * (2 ^ k * 2 ^ k)
  halfway = scaled-square (2 * p.root + 1) (2 ^ k) ∙ ap (λ (z : ℕ). z * (2 ^ k * 2 ^ k)) (square-odd p.root)

  pub past-halfway : p.root < p.rest → square ((2 * p.root + 1) * 2 ^ k) < 4 * x
  past-halfway h = lt_of_le_of_lt (le_of_eq halfway) (lt_of_lt_of_le (mul-lt-mul_of_pos_right (omega arith) power) (le_of_eq (sym four)))

  pub before-halfway : p.rest ≤ p.root → 4 * x < square ((2 * p.root + 1) * 2 ^ k)
  before-halfway h = lt_of_le_of_lt (le_of_eq four) (lt_of_lt_of_le (mul-lt-mul_of_pos_right (omega arith) power) (le_of_eq (sym halfway)))

  pub rounded-is : rounded x ≡ nearer p
  unfolding rounded
  rounded-is =
      ap (λ (z : ℕ). nearest z (compare (4 * x) (square ((2 * z + 1) * 2 ^ dropped x)))) kept-is
      ∙ ap (λ (z : ℕ). nearest p.root (compare (4 * x) (square ((2 * p.root + 1) * 2 ^ z)))) dropped-is
      ∙ go (ltb p.root p.rest) (ltb→lt p.root p.rest) (nltb→le p.root p.rest)
    where
      go : (t : Bool) → (T t → p.root < p.rest) → (T (not t) → p.rest ≤ p.root)
          → nearest p.root (compare (4 * x) (square ((2 * p.root + 1) * 2 ^ k))) ≡ cond t (p.root + 1) p.root
      go true a b = ap (nearest p.root) (orders-more (4 * x) (square ((2 * p.root + 1) * 2 ^ k)) (past-halfway (a tt))) ∙ sym (add-one p.root)
      go false a b = ap (nearest p.root) (orders-less (4 * x) (square ((2 * p.root + 1) * 2 ^ k)) (before-halfway (b tt)))
