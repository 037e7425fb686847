-- `zeros` and `apart`: a float's bits as digits and a power of two.
use mathlib.Core.Path.{◌≡◌, sym, ap, ◌∙◌, subst}
use Prim.Native.Nat.{ℕ, suc, ◌+◌, ◌-◌, ◌*◌, ◌/◌, ◌%◌, ◌^◌, ◌≤◌, ◌<◌}
use native.Mathlib.Nat.{le_trans, le_of_eq, lt_of_lt_of_le, lt_of_not-le, not-le_of_lt, mul_assoc, mul-le-mul_right, mul-lt-mul_of_pos_right, mod-eq_of_lt}
use native.Mathlib.Omega.{arith}
use borrow.Author.Tests.{lt-ltb, le-ltb}
use lib.Count.{count_leading_zeros, leading_top}
use lib.Dec.{lit≤}
use lib.Pow.{pow-add, pow_pos, pow_mono}
use Rattle.root.specs.declared.Scaled.{Scaled}
use Rattle.root.specs.Root.{units_in_one}
use Rattle.root.specs.inner.Digits.{hidden, ZerosTold, bits_units, ScaledTold}

-- ---- leading zeros
-- the highest digit of b is at j, so 52 - j places are missing
module _ (b : ℕ) (z : 0 < b) (h : b < hidden) where
  top : (j : ℕ) × (count_leading_zeros 64 b + suc j ≡ 64) × (2 ^ j ≤ b) × (b < 2 ^ suc j)
  top = leading_top 64 b z (omega arith)

  under : top.0 < 52
  under = lt_of_not-le (λ (g : 52 ≤ top.0). not-le_of_lt h (le_trans (pow_mono g) top.2))

  places : count_leading_zeros 64 b - 11 ≡ 52 - top.0
  places = omega (arith, top.1, under)

  up_to : top.0 + (52 - top.0) ≡ 52
  up_to = omega (arith, under)

  past : suc top.0 + (52 - top.0) ≡ 53
  past = omega (arith, under)

  pub zeros-some : 12 ≤ count_leading_zeros 64 b
  zeros-some = omega (arith, top.1, under)

  pub zeros-fit : count_leading_zeros 64 b < 2 ^ 64
  zeros-fit = omega (arith, top.1)

  pub zeros-told : ZerosTold b (count_leading_zeros 64 b - 11)
  zeros-told = record {
    least =
        subst (λ (x : ℕ). hidden ≤ b * 2 ^ x) (sym places)
        (le_trans (le_of_eq (ap (λ (x : ℕ). 2 ^ x) (sym up_to) ∙ pow-add 2 top.0 (52 - top.0))) (mul-le-mul_right (2 ^ (52 - top.0)) top.2));
    most =
        subst (λ (x : ℕ). b * 2 ^ x < 2 * hidden) (sym places)
        (lt_of_lt_of_le (mul-lt-mul_of_pos_right top.3 (pow_pos (52 - top.0))) (le_of_eq (sym (pow-add 2 (suc top.0) (52 - top.0)) ∙ ap (λ (x : ℕ). 2 ^ x) past)));
    few = omega (arith, places);
  }

-- ---- a subnormal float's digits, moved up
moved : (b z : ℕ) → ZerosTold b z → b * 2 ^ z % 2 ^ 64 ≡ b * 2 ^ z
moved b z t = mod-eq_of_lt (lt_of_lt_of_le t.most (lit≤ tt))

pub moved-least : (b z : ℕ) → ZerosTold b z → hidden ≤ b * 2 ^ z % 2 ^ 64
moved-least b z t = rw (moved b z t) t.least

pub moved-most : (b z : ℕ) → ZerosTold b z → b * 2 ^ z % 2 ^ 64 < 2 * hidden
moved-most b z t = rw (moved b z t) t.most

back : (z l : ℕ) → z ≤ l → z + (l - z) ≡ l
back z l h = omega arith

pub low-units : (b : ℕ) → b < hidden → b ≡ bits_units b
unfolding bits_units
low-units b h = rw (lt-ltb b hidden h)

pub high-units : (b : ℕ) → hidden ≤ b → (hidden + b % hidden) * 2 ^ (b / hidden - 1) ≡ bits_units b
unfolding bits_units
high-units b h = rw (le-ltb b hidden h)

pub apart_low : (b z : ℕ) (r : Scaled) → ZerosTold b z → ScaledTold (b * 2 ^ z % 2 ^ 64 * 2 ^ (1074 - z)) r → b < hidden → ScaledTold (bits_units b * units_in_one) r
apart_low b z r t s h = subst (λ (x : ℕ). ScaledTold x r) same s
  where
    same : b * 2 ^ z % 2 ^ 64 * 2 ^ (1074 - z) ≡ bits_units b * units_in_one
    same =
        ap (λ (x : ℕ). x * 2 ^ (1074 - z)) (moved b z t)
        ∙ mul_assoc b (2 ^ z) (2 ^ (1074 - z))
        ∙ ap (λ (x : ℕ). b * x) (sym (pow-add 2 z (1074 - z)) ∙ ap (λ (x : ℕ). 2 ^ x) (back z 1074 (le_trans t.few (lit≤ tt))))
        ∙ ap (λ (x : ℕ). x * units_in_one) (low-units b h)

pub apart-high : (b : ℕ) (r : Scaled) → ScaledTold ((hidden + b % hidden) * 2 ^ (b / hidden + 1073)) r → hidden ≤ b → ScaledTold (bits_units b * units_in_one) r
apart-high b r s h = subst (λ (x : ℕ). ScaledTold x r) same s
  where
    power : b / hidden - 1 + 1074 ≡ b / hidden + 1073
    power = omega arith

    same : (hidden + b % hidden) * 2 ^ (b / hidden + 1073) ≡ bits_units b * units_in_one
    same =
        ap (λ (x : ℕ). (hidden + b % hidden) * 2 ^ x) (sym power)
        ∙ ap (λ (x : ℕ). (hidden + b % hidden) * x) (pow-add 2 (b / hidden - 1) 1074)
        ∙ sym (mul_assoc (hidden + b % hidden) (2 ^ (b / hidden - 1)) units_in_one)
        ∙ ap (λ (x : ℕ). x * units_in_one) (high-units b h)
