-- Between q · 2 ^ k and (q + 1) · 2 ^ k units, q having 53 digits, there is no f64: so one of the two is the nearest to a root that lies between them.
use mathlib.Core.Path.{◌≡◌, refl, sym, ap, ◌∙◌, subst}
use mathlib.Core.Bool.{Bool, true, false, not, ◌&&◌}
use Prim.Native.Nat.{ℕ, zero, suc, ◌+◌, ◌-◌, ◌*◌, ◌/◌, ◌%◌, ◌^◌, ◌≤◌, ◌<◌}
use native.Mathlib.Nat.{le_trans, le_of_eq, lt_of_lt_of_le, lt_of_le_of_lt, lt_of_not-le, not-le_of_lt, zero-mul, zero-div, div-one, mul-one, mul_assoc, mul-le-mul, mul-le-mul_right, lt_of_mul-lt-mul_right, mul-div_cancel, add-mul}
use native.Mathlib.Omega.{arith}
use lib.Dec.{T, leb, ltb, eqb, leb→le, ltb→lt, nltb→le}
use lib.IntN.{ℤ, pos, negsuc}
use lib.Pow.{pow-add, pow_pos, pow_mono, pow-lt}
use lib.Ieee.{Float, nan, inf, fin, binary64, up, down, fits}
use lib.Ieee.Exact.{HasValue}
use lib.Ieee.Fits.{and_l, and_r}
use lib.Ieee.Scale.{finite}
use Rattle.root.specs.Root.{units_in_one, in_units, square}
use Rattle.root.specs.Nearest.{NearerThan, negative}
use Rattle.root.specs.inner.Digits.{hidden}
use Rattle.root.proofs.Squares.{square-twice, squares-less}

-- ---- every finite f64 is c · 2 ^ j units, c having at most 53 digits
pub record Spread (n : ℕ) : Type 0 where
  pub digits : ℕ
  pub places : ℕ
  pub few : digits < 2 ^ 53
  pub same : n ≡ digits * 2 ^ places

fits-digits : (s : Bool) (m : ℕ) (e : ℤ) → T (fits binary64 (fin s (suc m) e)) → suc m < 2 ^ 53
unfolding fits
fits-digits s m e t =
    let A = eqb (suc m % 2) 1 in
    let B = ltb (suc m) (2 ^ 53) in
    let C = leb (down e) (2 ^ 1074) in
    let D = ltb (suc m * up e) (2 ^ 1024 * down e) in
    ltb→lt (suc m) (2 ^ 53) (and_r A B (and_l (A && B) C (and_l (A && B && C) D t)))

fits-down : (s : Bool) (m : ℕ) (e : ℤ) → T (fits binary64 (fin s (suc m) e)) → down e ≤ 2 ^ 1074
unfolding fits
fits-down s m e t =
    let A = eqb (suc m % 2) 1 in
    let B = ltb (suc m) (2 ^ 53) in
    let C = leb (down e) (2 ^ 1074) in
    let D = ltb (suc m * up e) (2 ^ 1024 * down e) in
    leb→le (down e) (2 ^ 1074) (and_r (A && B) C (and_l (A && B && C) D t))

power-back : (i j : ℕ) → 2 ^ i ≤ 2 ^ j → i ≤ j
power-back i j h = at (lt_of_not-le (λ (g : suc j ≤ i). not-le_of_lt (pow-lt g) h))
  where
    at : i < suc j → i ≤ j
    at h = omega arith

back : (i j : ℕ) → i ≤ j → j - i + i ≡ j
back i j h = omega arith

none : (e : ℤ) → zero * up e * units_in_one / down e ≡ 0
none e = ap (λ (z : ℕ). z * units_in_one / down e) (zero-mul (up e)) ∙ zero-div (down e)

above-one : (m a : ℕ) → m * 2 ^ a * units_in_one / 1 ≡ m * 2 ^ (a + 1074)
above-one m a = div-one (m * 2 ^ a * units_in_one) ∙ mul_assoc m (2 ^ a) units_in_one ∙ ap (λ (z : ℕ). m * z) (sym (pow-add 2 a 1074))

one_split : (a : ℕ) → suc a ≤ 1074 → units_in_one ≡ 2 ^ (1074 - suc a) * 2 ^ suc a
one_split a h = ap (λ (z : ℕ). 2 ^ z) (sym (back (suc a) 1074 h)) ∙ pow-add 2 (1074 - suc a) (suc a)

below-one-times : (m a : ℕ) → suc a ≤ 1074 → m * 1 * units_in_one ≡ m * 2 ^ (1074 - suc a) * 2 ^ suc a
below-one-times m a h = ap (λ (z : ℕ). z * units_in_one) (mul-one m) ∙ ap (λ (z : ℕ). m * z) (one_split a h) ∙ sym (mul_assoc m (2 ^ (1074 - suc a)) (2 ^ suc a))

below_one : (m a : ℕ) → suc a ≤ 1074 → m * 1 * units_in_one / 2 ^ suc a ≡ m * 2 ^ (1074 - suc a)
below_one m a h = ap (λ (z : ℕ). z / 2 ^ suc a) (below-one-times m a h) ∙ mul-div_cancel (m * 2 ^ (1074 - suc a)) (pow_pos (suc a))

places-few : (s : Bool) (m a : ℕ) → T (fits binary64 (fin s (suc m) (negsuc a))) → suc a ≤ 1074
places-few s m a f = power-back (suc a) 1074 (fits-down s m (negsuc a) f)

pub spread : (y : Float) → T (fits binary64 y) → T (finite y) → Spread (in_units y)
spread nan f t = absurd t
spread (inf s) f t = absurd t
spread (fin s zero e) f t = record { digits = 0; places = 0; few = pow_pos 53; same = none e }
spread (fin s (suc m) (pos a)) f t = record { digits = suc m; places = a + 1074; few = fits-digits s m (pos a) f; same = above-one (suc m) a }
spread (fin s (suc m) (negsuc a)) f t = record { digits = suc m; places = 1074 - suc a; few = fits-digits s m (negsuc a) f; same = below_one (suc m) a (places-few s m a f) }

-- and no part of a unit is left
pub units-exact : (y : Float) → T (fits binary64 y) → T (finite y) → HasValue y (negative y) (in_units y) units_in_one
units-exact nan f t = absurd t
units-exact (inf s) f t = absurd t
units-exact (fin s zero e) f t = (refl, ap (λ (z : ℕ). z * units_in_one) (zero-mul (up e)) ∙ sym (ap (λ (z : ℕ). z * down e) (none e) ∙ zero-mul (down e)))
units-exact (fin s (suc m) (pos a)) f t = (refl, sym (mul-one (suc m * 2 ^ a * units_in_one / 1) ∙ div-one (suc m * 2 ^ a * units_in_one)))
units-exact (fin s (suc m) (negsuc a)) f t = (
  refl,
  below-one-times (suc m) a (places-few s m a f) ∙ sym (ap (λ (z : ℕ). z * 2 ^ suc a) (below_one (suc m) a (places-few s m a f))),
)

-- ---- the gap
between : (q t : ℕ) → q < t → t < q + 1 → ⊥
between q t a b = omega arith

-- y has digits at least as far up as q
coarse : (q k c j : ℕ) → k ≤ j → q * 2 ^ k < c * 2 ^ j → c * 2 ^ j < (q + 1) * 2 ^ k → ⊥
coarse q k c j h a b =
    let same : c * 2 ^ j ≡ c * 2 ^ (j - k) * 2 ^ k = ap (λ (z : ℕ). c * z) (ap (λ (z : ℕ). 2 ^ z) (sym (back k j h)) ∙ pow-add 2 (j - k) k) ∙ sym (mul_assoc c (2 ^ (j - k)) (2 ^ k)) in
    between q (c * 2 ^ (j - k)) (lt_of_mul-lt-mul_right (2 ^ k) (subst (λ (z : ℕ). q * 2 ^ k < z) same a)) (lt_of_mul-lt-mul_right (2 ^ k) (subst (λ (z : ℕ). z < (q + 1) * 2 ^ k) same b))

-- y has digits further down, so it is below
fine : (q k c j : ℕ) → hidden ≤ q → j < k → c < 2 ^ 53 → q * 2 ^ k < c * 2 ^ j → ⊥
fine q k c j l h few a =
    not-le_of_lt a
    (le_trans (mul-le-mul_right (2 ^ j) (below few))
    (le_trans (le_of_eq (sym (pow-add 2 53 j))) (le_trans (pow_mono (next h)) (le_trans (le_of_eq (pow-add 2 52 k)) (mul-le-mul_right (2 ^ k) l)))))
  where
    below : c < 2 ^ 53 → c ≤ 2 ^ 53
    below h = omega arith

    next : j < k → 53 + j ≤ 52 + k
    next h = omega arith

pub gap : (q k y : ℕ) → hidden ≤ q → Spread y → q * 2 ^ k < y → y < (q + 1) * 2 ^ k → ⊥
gap q k y l s a b = go (ltb s.places k) (ltb→lt s.places k) (nltb→le s.places k)
  where
    from : q * 2 ^ k < s.digits * 2 ^ s.places
    from = subst (λ (z : ℕ). q * 2 ^ k < z) s.same a

    to : s.digits * 2 ^ s.places < (q + 1) * 2 ^ k
    to = subst (λ (z : ℕ). z < (q + 1) * 2 ^ k) s.same b

    go : (t : Bool) → (T t → s.places < k) → (T (not t) → k ≤ s.places) → ⊥
    go true h g = fine q k s.digits s.places l (h tt) s.few from
    go false h g = coarse q k s.digits s.places (g tt) from to

-- ---- the nearest of the two ends, where N = 4 times the number whose root is meant
module _ (n k q y N : ℕ) (N-is : N ≡ 4 * (n * units_in_one)) (least : hidden ≤ q) (S : Spread y) where
  next : (q + 1) * 2 ^ k ≡ q * 2 ^ k + 2 ^ k
  next = omega (arith, add-mul q 1 (2 ^ k))

  middle : (2 * q + 1) * 2 ^ k ≡ q * 2 ^ k + (q * 2 ^ k + 2 ^ k)
  middle = omega (arith, add-mul (2 * q) 1 (2 ^ k), mul_assoc 2 q (2 ^ k))

  not-inside : (q * 2 ^ k < y → ⊥) → y ≤ q * 2 ^ k
  not-inside h = at (lt_of_not-le (λ (g : suc (q * 2 ^ k) ≤ y). h g))
    where
      at : y < suc (q * 2 ^ k) → y ≤ q * 2 ^ k
      at h = omega arith

  not-under : (y < (q + 1) * 2 ^ k → ⊥) → (q + 1) * 2 ^ k ≤ y
  not-under h = at (lt_of_not-le (λ (g : suc y ≤ (q + 1) * 2 ^ k). h g))
    where
      at : (q + 1) * 2 ^ k < suc y → (q + 1) * 2 ^ k ≤ y
      at h = omega arith

  pub upper-nearest : square ((2 * q + 1) * 2 ^ k) < N → N < 4 * square ((q + 1) * 2 ^ k) → NearerThan n ((q + 1) * 2 ^ k) y
  upper-nearest past under = record {
    above = λ h. subst (λ (z : ℕ). square ((q + 1) * 2 ^ k + y) < z) N-is (lt_of_le_of_lt (mul-le-mul (low h) (low h)) past);
    below = λ h. subst (λ (z : ℕ). z < square ((q + 1) * 2 ^ k + y)) N-is (lt_of_lt_of_le under (le_trans (le_of_eq (sym (square-twice ((q + 1) * 2 ^ k)))) (mul-le-mul (high h) (high h))));
  }
    where
      low : y < (q + 1) * 2 ^ k → (q + 1) * 2 ^ k + y ≤ (2 * q + 1) * 2 ^ k
      low h = omega (arith, not-inside (λ g. gap q k y least S g h), middle, next)

      high : (q + 1) * 2 ^ k < y → 2 * ((q + 1) * 2 ^ k) ≤ (q + 1) * 2 ^ k + y
      high h = omega arith

  pub lower-nearest : N < square ((2 * q + 1) * 2 ^ k) → 4 * square (q * 2 ^ k) ≤ N → NearerThan n (q * 2 ^ k) y
  lower-nearest before over = record {
    above = λ h. subst (λ (z : ℕ). square (q * 2 ^ k + y) < z) N-is (lt_of_lt_of_le (squares-less (q * 2 ^ k + y) (2 * (q * 2 ^ k)) (low h)) (le_trans (le_of_eq (square-twice (q * 2 ^ k))) over));
    below = λ h. subst (λ (z : ℕ). z < square (q * 2 ^ k + y)) N-is (lt_of_lt_of_le before (mul-le-mul (high h) (high h)));
  }
    where
      low : y < q * 2 ^ k → q * 2 ^ k + y < 2 * (q * 2 ^ k)
      low h = omega arith

      high : q * 2 ^ k < y → (2 * q + 1) * 2 ^ k ≤ q * 2 ^ k + y
      high h = omega (arith, not-under (λ g. gap q k y least S h g), middle, next)
