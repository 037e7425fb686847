-- The bits of finite floats of 0 or above: which units they stand for, and the bits of a number of units.
use mathlib.Core.Path.{◌≡◌, refl, sym, ap, ◌∙◌, subst}
use mathlib.Core.Logic.{inl, inr}
use mathlib.Core.Bool.{Bool, true, false, not, ◌&&◌, cond, true≢false}
use Prim.Native.Nat.{ℕ, suc, ◌+◌, ◌-◌, ◌*◌, ◌/◌, ◌%◌, ◌^◌, ◌≤◌, ◌<◌}
use native.Mathlib.Nat.{eq-or-lt_of_le, mul-le-mul, pow-succ', le_trans, le_of_eq, le_antisymm, lt_of_lt_of_le, lt_of_le_of_lt, lt_of_not-le, not-le_of_lt, zero-add, mul-one, mul_assoc, mul_right_comm, mul-le-mul_right, mul-lt-mul_of_pos_right, mod-eq_of_lt, mul-div_cancel, div-lt_iff_lt-mul}
use native.Mathlib.Omega.{arith}
use lib.Dec.{T, leb, ltb, eqb, leb→le, ltb→lt, eqb→eq, not_T, nltb→le, lit<}
use lib.IntN.{ℤ}
use lib.Pow.{pow-add, pow_pos, pow_mono}
use lib.Ieee.{Float, nan, inf, fin, binary64, up, down, size, odd, units, fits, of_fields, of_bits, to_bits}
use lib.Ieee.Bits.{is_false, cond_no, of_bits-to_bits}
use lib.Ieee.Digits.{size-lt, size-le}
use lib.Ieee.Exact.{HasValue, odd_sign, units_val}
use lib.Ieee.Fits.{and_r, down_pos, kept-lt, cond-fits, inf-fits, odd-fits}
use Rattle.root.specs.Root.{units_in_one, in_units}
use Rattle.root.specs.inner.Digits.{hidden, infinite, bits_units}
use Rattle.root.proofs.Scales.{low-units, high-units}

-- ---- the units of a pattern
fields : (b : ℕ) → of_bits binary64 b ≡ of_fields binary64 (leb (2 ^ 63) b) (b % 2 ^ 63 / hidden) (b % hidden)
unfolding of_bits
fields b = refl

signless : (b : ℕ) → b < infinite → b < 2 ^ 63
signless b h = omega arith

plain : (b : ℕ) → b < infinite → of_bits binary64 b ≡ of_fields binary64 false (b / hidden) (b % hidden)
plain b h =
    fields b
    ∙ ap (λ (s : Bool). of_fields binary64 s (b % 2 ^ 63 / hidden) (b % hidden)) (is_false (leb (2 ^ 63) b) (not_T (leb (2 ^ 63) b) (λ (t : T (leb (2 ^ 63) b)). not-le_of_lt (signless b h) (leb→le (2 ^ 63) b t))))
    ∙ ap (λ (z : ℕ). of_fields binary64 false (z / hidden) (b % hidden)) (mod-eq_of_lt (signless b h))

field-zero : (t : ℕ) → of_fields binary64 false 0 t ≡ odd 53 false t 0 1074
unfolding of_fields
field-zero t = refl

differ : (z : ℕ) → suc z < 2047 → suc z ≡ 2047 → ⊥
differ z h e = omega arith

field-some : (t z : ℕ) → suc z < 2047 → of_fields binary64 false (suc z) t ≡ odd 53 false (hidden + t) z 1074
unfolding of_fields
field-some t z h = cond_no (eqb (suc z) 2047) (cond (eqb t 0) (inf false) nan) (odd 53 false (hidden + t) z 1074) (not_T (eqb (suc z) 2047) (λ (u : T (eqb (suc z) 2047)). differ z h (eqb→eq (suc z) 2047 u)))

low_field : (b : ℕ) → b < hidden → b / hidden ≡ 0
low_field b h = omega arith

low-digits : (b : ℕ) → b < hidden → b % hidden ≡ b
low-digits b h = omega arith

high-field : (b : ℕ) → hidden ≤ b → b / hidden ≡ suc (b / hidden - 1)
high-field b h = omega arith

high-under : (b : ℕ) → hidden ≤ b → b < infinite → suc (b / hidden - 1) < 2047
high-under b h k = omega arith

of-units : (v : Float) (b : ℕ) → v ≡ of_bits binary64 b → (n : ℕ) → HasValue v false n units_in_one → n ≡ bits_units b → HasValue (of_bits binary64 b) false (bits_units b) units_in_one
of-units v b e n h k = subst (λ (y : Float). HasValue y false (bits_units b) units_in_one) e (subst (λ (z : ℕ). HasValue v false z units_in_one) k h)

pub bits-value : (b : ℕ) → b < infinite → HasValue (of_bits binary64 b) false (bits_units b) units_in_one
bits-value b h = go (ltb b hidden) (ltb→lt b hidden) (nltb→le b hidden)
  where
    go : (t : Bool) → (T t → b < hidden) → (T (not t) → hidden ≤ b) → HasValue (of_bits binary64 b) false (bits_units b) units_in_one
    go true l g =
        of-units (odd 53 false b 0 1074) b
        (sym (plain b h ∙ ap (λ (z : ℕ). of_fields binary64 false z (b % hidden)) (low_field b (l tt)) ∙ field-zero (b % hidden) ∙ ap (λ (z : ℕ). odd 53 false z 0 1074) (low-digits b (l tt))))
        (b * 2 ^ 0) (odd_sign 53 false b 0 1074) (mul-one b ∙ low-units b (l tt))
    go false l g =
        of-units (odd 53 false (hidden + b % hidden) (b / hidden - 1) 1074) b
        (sym (plain b h ∙ ap (λ (z : ℕ). of_fields binary64 false z (b % hidden)) (high-field b (g tt)) ∙ field-some (b % hidden) (b / hidden - 1) (high-under b (g tt) h)))
        ((hidden + b % hidden) * 2 ^ (b / hidden - 1)) (odd_sign 53 false (hidden + b % hidden) (b / hidden - 1) 1074) (high-units b (g tt))

-- ---- a float's units are those of its value
pub units_of : (x : Float) (s : Bool) (n : ℕ) → HasValue x s n units_in_one → in_units x ≡ n
units_of nan s n h = absurd h
units_of (inf t) s n h = absurd h
units_of (fin t m e) s n h = ap (λ (z : ℕ). z / down e) h.1 ∙ mul-div_cancel n (down_pos e)

-- the bits of a finite float, by its sign and its units
pub bits-by-units : (s : Bool) (m : ℕ) (e : ℤ) (n : ℕ) → in_units (fin s m e) ≡ n → to_bits binary64 (fin s m e) ≡ cond s (2 ^ 63) 0 + (size n - 53) * hidden + n / 2 ^ (size n - 53)
unfolding to_bits
bits-by-units s m e n h = ap (λ (z : ℕ). cond s (2 ^ 63) 0 + (size z - 53) * hidden + z / 2 ^ (size z - 53)) h

bits_of : (m : ℕ) (e : ℤ) (n : ℕ) → in_units (fin false m e) ≡ n → to_bits binary64 (fin false m e) ≡ (size n - 53) * hidden + n / 2 ^ (size n - 53)
bits_of m e n h = bits-by-units false m e n h ∙ ap (λ (z : ℕ). z + n / 2 ^ (size n - 53)) (zero-add ((size n - 53) * hidden))

-- ---- the bits of a finite float are below the infinity's
most-units : (m : ℕ) (e : ℤ) → T (fits binary64 (fin false (suc m) e)) → in_units (fin false (suc m) e) < 2 ^ 2098
unfolding fits
most-units m e t =
    (div-lt_iff_lt-mul (down_pos e)).1
    (lt_of_lt_of_le (mul-lt-mul_of_pos_right (ltb→lt (suc m * up e) (2 ^ 1024 * down e) (and_r (eqb (suc m % 2) 1 && ltb (suc m) (2 ^ 53) && leb (down e) (2 ^ 1074)) (ltb (suc m * up e) (2 ^ 1024 * down e)) t)) (pow_pos 1074))
    (le_of_eq (mul_right_comm (2 ^ 1024) (down e) (2 ^ 1074))))

few : (z k d : ℕ) → z ≤ 2098 → k ≡ z - 53 → d < 2 ^ 53 → k * hidden + d < infinite
few z k d h e l = omega arith

pub bits-finite : (m : ℕ) (e : ℤ) → T (fits binary64 (fin false (suc m) e)) → to_bits binary64 (fin false (suc m) e) < infinite
bits-finite m e t =
    let n = in_units (fin false (suc m) e) in
    subst (λ (z : ℕ). z < infinite) (sym (bits_of (suc m) e n refl))
    (few (size n) (size n - 53) (n / 2 ^ (size n - 53)) (size-le n 2098 (most-units m e t)) refl (kept-lt 53 n))

-- ---- the bits of a number of units
value-bits : (v : Float) (n : ℕ) → HasValue v false n units_in_one → to_bits binary64 v ≡ (size n - 53) * hidden + n / 2 ^ (size n - 53)
value-bits nan n h = absurd h
value-bits (inf t) n h = absurd h
value-bits (fin true m e) n h = absurd (true≢false h.0)
value-bits (fin false m e) n h = bits_of m e n (units_of (fin false m e) false n h)

size-at : (n d : ℕ) → 2 ^ d ≤ n → n < 2 ^ suc d → size n ≡ suc d
size-at n d l h = le_antisymm (size-le n (suc d) h) (lt_of_not-le (λ (g : size n ≤ d). not-le_of_lt (lt_of_lt_of_le (size-lt n) (pow_mono g)) l))

module _ (q k : ℕ) (least : hidden ≤ q) where
  written_below : q < 2 * hidden → (size (q * 2 ^ k) - 53) * hidden + q * 2 ^ k / 2 ^ (size (q * 2 ^ k) - 53) ≡ k * hidden + q
  written_below h =
      ap (λ (z : ℕ). z * hidden + q * 2 ^ k / 2 ^ z) (ap (λ (z : ℕ). z - 53) size_is ∙ back)
      ∙ ap (λ (z : ℕ). k * hidden + z) (mul-div_cancel q (pow_pos k))
    where
      back : suc (52 + k) - 53 ≡ k
      back = omega arith

      size_is : size (q * 2 ^ k) ≡ suc (52 + k)
      size_is = size-at (q * 2 ^ k) (52 + k) (le_trans (le_of_eq (pow-add 2 52 k)) (mul-le-mul_right (2 ^ k) least))
          (lt_of_lt_of_le (mul-lt-mul_of_pos_right h (pow_pos k)) (le_of_eq (sym (pow-add 2 53 k) ∙ ap (λ (z : ℕ). 2 ^ z) (one_more k))))
        where
          one_more : (k : ℕ) → 53 + k ≡ suc (52 + k)
          one_more k = omega arith

-- the leading digit carries into the field
carried : (k : ℕ) → (size (2 * hidden * 2 ^ k) - 53) * hidden + 2 * hidden * 2 ^ k / 2 ^ (size (2 * hidden * 2 ^ k) - 53) ≡ k * hidden + 2 * hidden
carried k =
    ap (λ (z : ℕ). (size z - 53) * hidden + z / 2 ^ (size z - 53)) (mul_assoc hidden 2 (2 ^ k) ∙ ap (λ (z : ℕ). hidden * z) (sym (pow-succ' 2 k)))
    ∙ written_below hidden (suc k) (le_of_eq refl) (lit< tt)
    ∙ omega arith

written : (q k : ℕ) → hidden ≤ q → q ≤ 2 * hidden → (size (q * 2 ^ k) - 53) * hidden + q * 2 ^ k / 2 ^ (size (q * 2 ^ k) - 53) ≡ k * hidden + q
written q k l h = elim (eq-or-lt_of_le h) [
  | inl e ↦ subst (λ (z : ℕ). (size (z * 2 ^ k) - 53) * hidden + z * 2 ^ k / 2 ^ (size (z * 2 ^ k) - 53) ≡ k * hidden + z) (sym e) (carried k)
  | inr g ↦ written_below q k l g
]

-- q · 2 ^ k units, q having 53 digits or being the next number
module _ (q k : ℕ) (least : hidden ≤ q) (most : q ≤ 2 * hidden) (few-places : k ≤ 1600) where
  pub units_small : q * 2 ^ k < 2 ^ 2098
  units_small = lt_of_le_of_lt (mul-le-mul most (pow_mono few-places)) (lit< tt)

  pub units-fit : T (fits binary64 (units binary64 false q k))
  unfolding units
  units-fit =
      cond-fits binary64 (ltb (q * 2 ^ k) (2 ^ 2098)) (odd 54 false q k 1074) (inf false)
      (odd-fits binary64 54 false q k (omega arith) (omega arith) units_small) (inf-fits binary64 false)

  pub units-value : HasValue (units binary64 false q k) false (q * 2 ^ k) units_in_one
  units-value = units_val binary64 false q k units_small

  pub units-bits : of_bits binary64 (k * hidden + q) ≡ units binary64 false q k
  units-bits =
      ap (λ (z : ℕ). of_bits binary64 z) (sym (value-bits (units binary64 false q k) (q * 2 ^ k) units-value ∙ written q k least most))
      ∙ of_bits-to_bits binary64 (units binary64 false q k) units-fit
