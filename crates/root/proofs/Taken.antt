-- Every finite float above 0, taken apart as `apart` and `whole` do it: the laws of Meaning go by these digits.
use mathlib.Core.Path.{◌≡◌, refl, sym, ◌∙◌, subst}
use mathlib.Core.Bool.{Bool, true, false, not}
use Prim.Native.Nat.{ℕ, zero, suc, ◌+◌, ◌-◌, ◌*◌, ◌/◌, ◌%◌, ◌^◌, ◌≤◌, ◌<◌}
use native.Mathlib.Nat.{zero-mul, mul-le-mul_right}
use native.Mathlib.Omega.{arith}
use lib.Count.{count_leading_zeros}
use lib.Dec.{T, ltb, ltb→lt, lt→ltb, nltb→le}
use lib.Ieee.{Float, nan, inf, fin, binary64, up, down, units, lt, fits, of_bits, to_bits}
use lib.Ieee.Bits.{is_true}
use lib.Ieee.Positive.{positive}
use Rattle.geometry.specs.Floats.{zero as 0·0}
use Rattle.root.specs.declared.Part.{Part}
use Rattle.root.specs.declared.Scaled.{Scaled}
use Rattle.root.specs.Root.{units_in_one, in_units, whole_root, root_of}
use Rattle.root.specs.inner.Digits.{hidden, infinite, RootTold, nearer, ZerosTold, bits_units, ScaledTold}
use Rattle.root.proofs.Squares.{root-least, root-most, square-next}
use Rattle.root.proofs.Parts.{even_power, odd_power}
use Rattle.root.proofs.Scales.{zeros-told, moved-least, moved-most, apart_low, apart-high}
use Rattle.root.proofs.Roots.{Digits, whole-holds}
use Rattle.root.proofs.Answers.{digits, root_is}
use Rattle.root.proofs.Signs.{infinity, size_above, bits-some, bits-under, units-are, root-by-bits}

evened : (d p : ℕ) → hidden ≤ d → d < 2 * hidden → 52 ≤ p → p ≤ 3200 → (s : Scaled) × ScaledTold (d * 2 ^ p) s
evened d p a b c e = go (p % 2) refl
  where
    go : (t : ℕ) → p % 2 ≡ t → (s : Scaled) × ScaledTold (d * 2 ^ p) s
    go zero z = (record { digits = d; half = p / 2 }, even_power d p z a b c e)
    go (suc t) z = (record { digits = 2 * d; half = p / 2 }, odd_power d p (λ (w : p % 2 ≡ 0). odd t (sym z ∙ w)) a b c e)
      where
        odd : (t : ℕ) → suc t ≡ 0 → ⊥
        odd t h = omega arith

scaled : (b : ℕ) → 0 < b → b < infinite → (s : Scaled) × ScaledTold (bits_units b * units_in_one) s
scaled b z h = go (ltb b hidden) (ltb→lt b hidden) (nltb→le b hidden)
  where
    go : (t : Bool) → (T t → b < hidden) → (T (not t) → hidden ≤ b) → (s : Scaled) × ScaledTold (bits_units b * units_in_one) s
    go true l g =
        let up = count_leading_zeros 64 b - 11 in
        let told : ZerosTold b up = zeros-told b z (l tt) in
        let r = evened (b * 2 ^ up % 2 ^ 64) (1074 - up) (moved-least b up told) (moved-most b up told) (omega (arith, told.few)) (omega arith) in
        (r.0, apart_low b up r.0 told r.1 (l tt))
    go false l g =
        let r = evened (hidden + b % hidden) (b / hidden + 1073) (omega arith) (omega arith) (omega arith) (omega (arith, h)) in
        (r.0, apart-high b r.0 r.1 (g tt))

left : (w n : ℕ) → w * w ≤ n → w * w + (n - w * w) ≡ n
left w n h = omega arith

left-short : (w n : ℕ) → n < (w + 1) * (w + 1) → n - w * w ≤ 2 * w
left-short w n h = omega (arith, square-next w)

parted : (n : ℕ) → hidden ≤ n → n < 4 * hidden → (p : Part) × RootTold n p
parted n l h =
    let w = whole_root (n * hidden) in
    let low : w * w ≤ n * hidden = (whole-holds (n * hidden)).below in
    let sum = left w (n * hidden) low in
    let short = left-short w (n * hidden) (whole-holds (n * hidden)).above in (
      record { root = w; rest = n * hidden - w * w },
      record {
        square = sum;
        short = short;
        least = root-least hidden w (n * hidden - w * w) (n * hidden) sum short (mul-le-mul_right hidden l);
        most = root-most (2 * hidden) w (n * hidden - w * w) (n * hidden) sum (omega arith);
      },
    )

-- ---- above 0 and finite
positive-above : (x : Float) → T (positive x) → lt 0·0 x ≡ true
unfolding lt of_bits
positive-above nan p = absurd p
positive-above (inf s) p = absurd p
positive-above (fin true m e) p = absurd p
positive-above (fin false zero e) p = absurd p
positive-above (fin false (suc m) e) p = is_true (ltb (0 * down e) (suc m * up e * 1)) (lt→ltb (0 * down e) (suc m * up e * 1) (subst (λ (z : ℕ). z < suc m * up e * 1) (sym (zero-mul (down e))) (size_above m e)))

positive-under : (x : Float) → T (positive x) → lt x infinity ≡ true
unfolding lt of_bits
positive-under nan p = absurd p
positive-under (inf s) p = absurd p
positive-under (fin s m e) p = refl

-- ---- the digits of the root of x, and the root by them
pub record Taken (x : Float) : Type 0 where
  pub part : Part
  pub places : ℕ
  pub few : places ≤ 1600
  pub digits : Digits (in_units x * units_in_one) places part
  pub root : root_of x ≡ units binary64 false (nearer part) places

pub taken : (x : Float) → T (fits binary64 x) → T (positive x) → Taken x
taken x F P =
    let held = is_true (fits binary64 x) F in
    let above = positive-above x P in
    let under = positive-under x P in
    let b = to_bits binary64 x in
    let n : in_units x ≡ bits_units b = units-are x held above under in
    let s = scaled b (bits-some x held above under) (bits-under x held above under) in
    let p = parted s.0.digits s.1.least s.1.most in record {
      part = p.0;
      places = s.0.half - 26;
      few = less s.0.half s.1.upto;
      digits = subst (λ (z : ℕ). Digits (z * units_in_one) (s.0.half - 26) p.0) (sym n) (digits b s.0 p.0 s.1 p.1);
      root = sym (root_is b s.0 p.0 s.1 p.1 ∙ root-by-bits x held above under);
    }
  where
    less : (h : ℕ) → h ≤ 1600 → h - 26 ≤ 1600
    less h l = omega arith
