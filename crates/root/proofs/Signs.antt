-- Floats by cases: which are below 0, 0, above 0 and finite, and the answer for each.
use mathlib.Core.Path.{◌≡◌, refl, sym, ap, ◌∙◌, subst}
use mathlib.Core.Bool.{Bool, true, false, not, true≢false}
use mathlib.Core.Logic.{inl, inr}
use Prim.Native.Nat.{ℕ, zero, suc, ◌+◌, ◌*◌, ◌%◌, ◌^◌, ◌<◌}
use native.Mathlib.Nat.{not-suc-le-zero, zero-lt-suc, zero-mul, mul-one, mul-pos, eq-zero-or-pos, mod-eq_of_lt, not-le_of_lt, le_of_lt}
use native.Mathlib.Omega.{arith}
use lib.Dec.{T, ltb, ltb→lt, lt→ltb, not_T}
use lib.IntN.{ℤ}
use lib.Ieee.{Float, nan, inf, fin, binary64, up, down, below, div, lt, fits, is_nan, nan_bits, of_bits, to_bits}
use lib.Ieee.Bits.{of_bits-to_bits, nan_bits_above}
use lib.Ieee.Exact.{HasValue}
use lib.Ieee.Fits.{up_pos}
use lib.Ieee.Scale.{finite}
use Rattle.std.specs.Prelude.{Ok, Err}
use Rattle.kind.specs.declared.refusals.Refusal.TheVariants.{InputNotFinite, BelowZero}
use Rattle.geometry.specs.Floats.{zero as 0·0}
use Rattle.root.specs.Root.{units_in_one, in_units, nearest_root, root_of, rooted_of}
use Rattle.root.specs.inner.Digits.{infinite, bits_units, BitsTold}
use Rattle.root.proofs.Patterns.{bits-value, units_of, bits-finite}

abbrev pub infinity : Float
infinity = of_bits binary64 0x7ff0_0000_0000_0000

-- ---- comparisons with 0
zero-below : (s : Bool) (a b : ℕ) → a ≡ 0 → b ≡ 0 → below s a false b ≡ false
zero-below s a b p q = ap (λ (z : ℕ). below s z false b) p ∙ ap (λ (z : ℕ). below s 0 false z) q ∙ go s
  where
    go : (s : Bool) → below s 0 false 0 ≡ false
    go true = refl
    go false = refl

nothing-below : (a b : ℕ) → b ≡ 0 → ltb a b ≡ true → ⊥
nothing-below a b e t = not-suc-le-zero (subst (λ (z : ℕ). a < z) e (ltb→lt a b (subst T (sym t) tt)))

pub all_above : (a : ℕ) → 0 < a → ltb 0 a ≡ false → ⊥
all_above a h t = subst T t (lt→ltb 0 a h)

clash : true ≡ false → ⊥
clash e = true≢false e

pub size_above : (m : ℕ) (e : ℤ) → 0 < suc m * up e * 1
size_above m e = mul-pos (mul-pos (zero-lt-suc m) (up_pos e)) (zero-lt-suc 0)

pub wider : (a b : ℕ) → 0 < a → 0 < a + b
wider a b h = omega arith

pub below-zero : (x : Float) → lt x 0·0 ≡ true → div binary64 0·0 0·0 ≡ root_of x
unfolding lt of_bits div root_of
below-zero nan t = absurd (clash (sym t))
below-zero (inf true) t = refl
below-zero (inf false) t = absurd (clash (sym t))
below-zero (fin s zero e) t = absurd (clash (sym t ∙ zero-below s (zero * up e * 1) (0 * down e) (mul-one (zero * up e) ∙ zero-mul (up e)) (zero-mul (down e))))
below-zero (fin true (suc m) e) t = refl
below-zero (fin false (suc m) e) t = absurd (nothing-below (suc m * up e * 1) (0 * down e) (zero-mul (down e)) t)

pub neither : (x : Float) → lt x 0·0 ≡ false → lt 0·0 x ≡ false → x ≡ root_of x
unfolding lt of_bits root_of
neither nan l g = refl
neither (inf true) l g = absurd (clash l)
neither (inf false) l g = absurd (clash g)
neither (fin s zero e) l g = refl
neither (fin true (suc m) e) l g = absurd (all_above (suc m * up e * 1 + 0 * down e) (wider (suc m * up e * 1) (0 * down e) (size_above m e)) l)
neither (fin false (suc m) e) l g = absurd (above (suc m * up e * 1) (0 * down e) (zero-mul (down e)) (size_above m e) g)
  where
    above : (a b : ℕ) → b ≡ 0 → 0 < a → ltb b a ≡ false → ⊥
    above a b e h t = all_above a h (subst (λ (z : ℕ). ltb z a ≡ false) e t)

pub not-below : (x : Float) → lt 0·0 x ≡ true → lt x infinity ≡ false → x ≡ root_of x
unfolding lt of_bits root_of
not-below nan g l = refl
not-below (inf true) g l = absurd (clash (sym g))
not-below (inf false) g l = refl
not-below (fin s m e) g l = absurd (clash l)

pub no_nan : (x : Float) → lt x infinity ≡ true → T (not (is_nan x))
unfolding lt of_bits is_nan
no_nan nan l = absurd (clash (sym l))
no_nan (inf s) l = tt
no_nan (fin s m e) l = tt

-- ---- a finite float above 0
positive-is : (x : Float) → lt 0·0 x ≡ true → lt x infinity ≡ true → (m : ℕ) × (e : ℤ) × (x ≡ fin false (suc m) e)
unfolding lt of_bits
positive-is nan g l = absurd (clash (sym g))
positive-is (inf true) g l = absurd (clash (sym g))
positive-is (inf false) g l = absurd (clash (sym l))
positive-is (fin true m e) g l = absurd (clash (sym g))
positive-is (fin false zero e) g l = absurd (nothing-below (0 * down e) (zero * up e * 1) (mul-one (zero * up e) ∙ zero-mul (up e)) g)
positive-is (fin false (suc m) e) g l = (m, e, refl)

zero-not-above : lt 0·0 0·0 ≡ false
unfolding lt of_bits
zero-not-above = refl

root-positive : (m : ℕ) (e : ℤ) → nearest_root (in_units (fin false (suc m) e)) ≡ root_of (fin false (suc m) e)
unfolding root_of
root-positive m e = refl

module _ (x : Float) (F : fits binary64 x ≡ true) (G : lt 0·0 x ≡ true) (L : lt x infinity ≡ true) where
  held : of_bits binary64 (to_bits binary64 x) ≡ x
  held = of_bits-to_bits binary64 x (subst T (sym F) tt)

  pub bits-some : 0 < to_bits binary64 x
  bits-some = elim (eq-zero-or-pos (to_bits binary64 x)) [
    | inl z ↦ absurd (clash (sym G ∙ ap (λ (y : Float). lt 0·0 y) (sym held ∙ ap (λ (b : ℕ). of_bits binary64 b) z) ∙ zero-not-above))
    | inr p ↦ p
  ]

  pub bits-under : to_bits binary64 x < infinite
  bits-under =
      let w = positive-is x G L in
      subst (λ (y : Float). to_bits binary64 y < infinite) (sym w.2) (bits-finite w.0 w.1 (subst (λ (y : Float). T (fits binary64 y)) w.2 (subst T (sym F) tt)))

  pub units-are : in_units x ≡ bits_units (to_bits binary64 x)
  units-are =
      units_of x false (bits_units (to_bits binary64 x))
      (subst (λ (y : Float). HasValue y false (bits_units (to_bits binary64 x)) units_in_one) held (bits-value (to_bits binary64 x) bits-under))

  pub root-by-bits : nearest_root (bits_units (to_bits binary64 x)) ≡ root_of x
  root-by-bits =
      let w = positive-is x G L in
      ap nearest_root (sym units-are ∙ ap in_units w.2) ∙ root-positive w.0 w.1 ∙ ap root_of (sym w.2)

  pub root_told : (r : ℕ) → BitsTold (to_bits binary64 x) r → of_bits binary64 r ≡ root_of x
  root_told r t = t.root ∙ root-by-bits

pub finite-bits : (b r : ℕ) → BitsTold b r → T (not (nan_bits binary64 r))
finite-bits b r t =
    subst (λ (z : Bool). T (not z)) (sym (nan_bits_above binary64 r))
    (not_T (ltb infinite (r % 2 ^ 63)) (λ (u : T (ltb infinite (r % 2 ^ 63))). not-le_of_lt t.finite (le_of_lt (subst (λ (z : ℕ). infinite < z) (mod-eq_of_lt (small r t.finite)) (ltb→lt infinite (r % 2 ^ 63) u)))))
  where
    small : (r : ℕ) → r < infinite → r < 2 ^ 63
    small r h = omega arith

-- ---- the refusals
module _ (x : Float) (t : Bool) (e : t ≡ finite x) where
  pub refused-below : t ≡ true → lt x 0·0 ≡ true → Err BelowZero ≡ rooted_of x
  unfolding rooted_of
  refused-below p l = rw (← e, p, l)

  pub rooted : t ≡ true → lt x 0·0 ≡ false → (r : Float) → r ≡ root_of x → Ok r ≡ rooted_of x
  unfolding rooted_of
  rooted p l r f = rw (← e, p, l) (ap Ok f)

  pub refused-infinite : t ≡ false → Err InputNotFinite ≡ rooted_of x
  unfolding rooted_of
  refused-infinite p = rw (← e, p)
