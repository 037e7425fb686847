-- What the definition means, for every finite f64 of 0 or above: its root is nearer than every other f64, and so the only one that is; no tie
-- occurs; it is exact where it can be, and it grows with its input.
use mathlib.Core.Path.{◌≡◌, refl, sym, ap, ◌∙◌, subst}
use mathlib.Core.Bool.{Bool, true, false, not, ◌||◌, cond}
use mathlib.Core.Logic.{◌⊎◌, inl, inr}
use Prim.Native.Nat.{ℕ, zero, suc, ◌+◌, ◌-◌, ◌*◌, ◌/◌, ◌^◌, ◌≤◌, ◌<◌}
use native.Mathlib.Nat.{le_trans, le_of_eq, le_antisymm, lt_of_lt_of_le, lt_of_le_of_lt, lt_of_not-le, not-le_of_lt, lt_irrefl, zero-lt-suc, zero-mul, zero-div, add_comm, mul-le-mul, mul-le-mul_left, mul-le-mul_right, mul_assoc, mul-lt-mul_of_pos_right, mul_right_comm, mul-pos}
use native.Mathlib.Omega.{arith}
use lib.Dec.{T, ltb, ltb→lt, lt→ltb, nltb→le}
use lib.IntN.{ℤ}
use lib.Pow.{pow_pos}
use lib.Ieee.{Float, nan, inf, fin, binary64, up, down, size, below, level, lt, le, fits, of_bits}
use lib.Ieee.Bits.{of_bits-to_bits}
use lib.Ieee.Exact.{HasValue}
use lib.Ieee.Fits.{up_pos, down_pos}
use lib.Ieee.Nearest.{div_mono}
use lib.Ieee.Order.{le_of_values}
use lib.Ieee.Positive.{positive, num, den, den_pos, le→cross, positive_of_value, positive-finite, above_of_le}
use lib.Ieee.Scale.{finite}
use Rattle.std.specs.Prelude.{Ok, Err}
use Rattle.kind.specs.declared.refusals.Refusal.TheVariants.{InputNotFinite, BelowZero}
use Rattle.geometry.specs.Floats.{zero as 0·0}
use Rattle.root.specs.declared.Part.{Part}
use Rattle.root.specs.Root.{units_in_one, in_units, square, dropped, kept, root_of, rooted_of}
use Rattle.root.specs.Nearest.{NearerThan, Enclosed, negative, NearestTo}
use Rattle.root.specs.inner.Digits.{hidden, nearer}
use Rattle.root.proofs.Squares.{squares-less, square-twice}
use Rattle.root.proofs.Roots.{Digits, dropped-is, kept-is, over_root, under_next, past-halfway, before-halfway}
use Rattle.root.proofs.Patterns.{units_of, units-fit, units-value, bits-by-units}
use Rattle.root.proofs.Answers.{nearer-least, nearer-most}
use Rattle.root.proofs.Signs.{size_above, all_above, wider}
use Rattle.root.proofs.Taken.{taken}
use Rattle.root.proofs.Gaps.{spread, upper-nearest, lower-nearest}

-- ---- above 0
module _ (x : Float) (F : T (fits binary64 x)) (P : T (positive x)) where
  abbrev part : Part
  part = (taken x F P).part

  abbrev places : ℕ
  places = (taken x F P).places

  -- the number whose root is meant, and its digits
  abbrev number : ℕ
  number = in_units x * units_in_one

  digits : Digits number places part
  digits = (taken x F P).digits

  least : hidden ≤ nearer part
  least = nearer-least part digits.least

  most : nearer part ≤ 2 * hidden
  most = nearer-most part digits.most

  -- the root by its digits
  root-has : HasValue (root_of x) false (nearer part * 2 ^ places) units_in_one
  root-has = subst (λ (z : Float). HasValue z false (nearer part * 2 ^ places) units_in_one) (sym (taken x F P).root) (units-value (nearer part) places least most (taken x F P).few)

  root-in-units : in_units (root_of x) ≡ nearer part * 2 ^ places
  root-in-units = units_of (root_of x) false (nearer part * 2 ^ places) root-has

  root-value : HasValue (root_of x) false (in_units (root_of x)) units_in_one
  root-value = subst (λ (z : ℕ). HasValue (root_of x) false z units_in_one) (sym root-in-units) root-has

  root-held : T (fits binary64 (root_of x))
  root-held = subst (λ (z : Float). T (fits binary64 z)) (sym (taken x F P).root) (units-fit (nearer part) places least most (taken x F P).few)

  root-positive : T (positive (root_of x))
  root-positive = positive_of_value (root_of x) (nearer part * 2 ^ places) units_in_one root-has (mul-pos (lt_of_lt_of_le (pow_pos 52) least) (pow_pos places))

  -- which side of halfway, as `nearer` asks
  sides : {C : Bool → Type 0} → ((t : Bool) → (T t → part.root < part.rest) → (T (not t) → part.rest ≤ part.root) → C t) → C (ltb part.root part.rest)
  sides go = go (ltb part.root part.rest) (ltb→lt part.root part.rest) (nltb→le part.root part.rest)

  nearer-than : (y : Float) → T (fits binary64 y) → T (finite y) → NearerThan (in_units x) (in_units (root_of x)) (in_units y)
  nearer-than y G Q = subst (λ (z : ℕ). NearerThan (in_units x) z (in_units y)) (sym root-in-units) (sides {C = λ t. NearerThan (in_units x) (cond t (part.root + 1) part.root * 2 ^ places) (in_units y)} go)
    where
      go : (t : Bool) → (T t → part.root < part.rest) → (T (not t) → part.rest ≤ part.root) → NearerThan (in_units x) (cond t (part.root + 1) part.root * 2 ^ places) (in_units y)
      go true h g =
          upper-nearest (in_units x) places part.root (in_units y) (4 * number) refl digits.least (spread y G Q) (past-halfway number places part digits (h tt)) (under_next number places part digits)
      go false h g =
          lower-nearest (in_units x) places part.root (in_units y) (4 * number) refl digits.least (spread y G Q) (before-halfway number places part digits (g tt)) (over_root number places part digits)

  positive-nearest : NearestTo x (root_of x)
  positive-nearest = record { held = root-held; finite = positive-finite (root_of x) root-positive; sign = plus (root_of x) root-positive ∙ sym (plus x P); nearer = nearer-than }
    where
      plus : (z : Float) → T (positive z) → negative z ≡ false
      plus nan p = absurd p
      plus (inf s) p = absurd p
      plus (fin true m e) p = absurd p
      plus (fin false m e) p = refl

  -- the squares of the numbers halfway to the root's neighbours enclose it
  pub root-enclosed : Enclosed (in_units x) (in_units (root_of x))
  root-enclosed = record {
    digits = nearer part;
    places = places;
    same = root-in-units;
    least = least;
    most = most;
    from = sides {C = λ t. square ((2 * cond t (part.root + 1) part.root - 1) * 2 ^ places) < 4 * number} from;
    to = sides {C = λ t. 4 * number < square ((2 * cond t (part.root + 1) part.root + 1) * 2 ^ places)} to;
  }
    where
      back : (q : ℕ) → 2 * q + 1 ≡ 2 * (q + 1) - 1
      back q = omega arith

      one_down : 2 * part.root - 1 < 2 * part.root
      one_down = omega (arith, digits.least)

      less : (2 * part.root - 1) * 2 ^ places < 2 * (part.root * 2 ^ places)
      less = lt_of_lt_of_le (mul-lt-mul_of_pos_right one_down (pow_pos places)) (le_of_eq (mul_assoc 2 part.root (2 ^ places)))

      one_up : (q : ℕ) → 2 * q ≤ 2 * q + 1
      one_up q = omega arith

      more : 2 * ((part.root + 1) * 2 ^ places) ≤ (2 * (part.root + 1) + 1) * 2 ^ places
      more = le_trans (le_of_eq (sym (mul_assoc 2 (part.root + 1) (2 ^ places)))) (mul-le-mul_right (2 ^ places) (one_up (part.root + 1)))

      from : (t : Bool) → (T t → part.root < part.rest) → (T (not t) → part.rest ≤ part.root) → square ((2 * cond t (part.root + 1) part.root - 1) * 2 ^ places) < 4 * number
      from true h g = subst (λ (z : ℕ). square (z * 2 ^ places) < 4 * number) (back part.root) (past-halfway number places part digits (h tt))
      from false h g = lt_of_lt_of_le (squares-less ((2 * part.root - 1) * 2 ^ places) (2 * (part.root * 2 ^ places)) less) (le_trans (le_of_eq (square-twice (part.root * 2 ^ places))) (over_root number places part digits))

      to : (t : Bool) → (T t → part.root < part.rest) → (T (not t) → part.rest ≤ part.root) → 4 * number < square ((2 * cond t (part.root + 1) part.root + 1) * 2 ^ places)
      to true h g = lt_of_lt_of_le (under_next number places part digits) (le_trans (le_of_eq (sym (square-twice ((part.root + 1) * 2 ^ places)))) (mul-le-mul more more))
      to false h g = before-halfway number places part digits (g tt)

  -- the square of the number halfway is never the number whose root is meant
  pub no_tie : 4 * number ≡ square ((2 * kept number + 1) * 2 ^ dropped number) → ⊥
  no_tie e = sides {C = λ t. ⊥} go
    where
      at : 4 * number ≡ square ((2 * part.root + 1) * 2 ^ places)
      at =
          e
          ∙ ap (λ (z : ℕ). square ((2 * z + 1) * 2 ^ dropped number)) (kept-is number places part digits)
          ∙ ap (λ (z : ℕ). square ((2 * part.root + 1) * 2 ^ z)) (dropped-is number places part digits)

      go : (t : Bool) → (T t → part.root < part.rest) → (T (not t) → part.rest ≤ part.root) → ⊥
      go true h g = lt_irrefl (4 * number) (lt_of_le_of_lt (le_of_eq at) (past-halfway number places part digits (h tt)))
      go false h g = lt_irrefl (4 * number) (lt_of_lt_of_le (before-halfway number places part digits (g tt)) (le_of_eq (sym at)))

-- ---- a zero of either sign is its own root
pub root-zero : (s : Bool) (e : ℤ) → root_of (fin s 0 e) ≡ fin s 0 e
unfolding root_of
root-zero s e = refl

zero-units : (s : Bool) (e : ℤ) → in_units (fin s 0 e) ≡ 0
zero-units s e = ap (λ (z : ℕ). z * units_in_one / down e) (zero-mul (up e)) ∙ zero-div (down e)

zero-nearer : (x r y : ℕ) → x ≡ 0 → r ≡ 0 → NearerThan x r y
zero-nearer x r y e f = record {
  above = λ h. absurd (under h);
  below = λ h. subst (λ (z : ℕ). 4 * (z * units_in_one) < square (r + y)) (sym e) (mul-pos (over h) (over h));
}
  where
    under : y < r → ⊥
    under h = omega arith

    over : r < y → 0 < r + y
    over h = omega arith

zero-nearest : (s : Bool) (e : ℤ) → T (fits binary64 (fin s 0 e)) → NearestTo (fin s 0 e) (fin s 0 e)
zero-nearest s e F = record { held = F; finite = tt; sign = refl; nearer = λ y G Q. zero-nearer (in_units (fin s 0 e)) (in_units (fin s 0 e)) (in_units y) (zero-units s e) (zero-units s e) }

-- a finite float that is not below 0 is a zero or above 0
Zero : Float → Type 0
Zero x = (s : Bool) × (e : ℤ) × (x ≡ fin s 0 e)

zero-or-above : (x : Float) → T (finite x) → lt x 0·0 ≡ false → Zero x ⊎ T (positive x)
unfolding lt of_bits Zero
zero-or-above nan t l = absurd t
zero-or-above (inf s) t l = absurd t
zero-or-above (fin s zero e) t l = inl (s, e, refl)
zero-or-above (fin true (suc m) e) t l = absurd (all_above (suc m * up e * 1 + 0 * down e) (wider (suc m * up e * 1) (0 * down e) (size_above m e)) l)
zero-or-above (fin false (suc m) e) t l = inr (lt→ltb 0 (suc m) (zero-lt-suc m))

-- ---- the root is the nearest f64, for every finite float of 0 or above
pub root-nearest : (x : Float) → T (fits binary64 x) → T (finite x) → lt x 0·0 ≡ false → NearestTo x (root_of x)
unfolding Zero
root-nearest x F Q l = elim (zero-or-above x Q l) [
  | inl z ↦
      subst (λ (y : Float). NearestTo y (root_of y)) (sym z.2)
      (subst (λ (y : Float). NearestTo (fin z.0 0 z.1) y) (sym (root-zero z.0 z.1)) (zero-nearest z.0 z.1 (subst (λ (y : Float). T (fits binary64 y)) z.2 F)))
  | inr p ↦ positive-nearest x F p
]

no_number : ◌≡◌ {A = ℕ} 0 1 → ⊥
no_number h = omega arith

-- whatever `root` answers for a float is nearest
pub answer-nearest : (x r : Float) → T (fits binary64 x) → rooted_of x ≡ Ok r → NearestTo x r
unfolding rooted_of
answer-nearest x r F e = go (finite x) (lt x 0·0) refl refl e
  where
    go : (a b : Bool) → finite x ≡ a → lt x 0·0 ≡ b → cond a (cond b (Err BelowZero) (Ok (root_of x))) (Err InputNotFinite) ≡ Ok r → NearestTo x r
    go true true p q e = let z : ◌≡◌ {A = ℕ} 0 1 = cc in absurd (no_number z)
    go true false p q e = let z : root_of x ≡ r = cc in subst (λ (y : Float). NearestTo x y) z (root-nearest x F (subst T (sym p) tt) q)
    go false b p q e = let z : ◌≡◌ {A = ℕ} 0 1 = cc in absurd (no_number z)

-- ---- two finite f64 of the same sign and units are the same
same_units : (r s : Float) → T (fits binary64 r) → T (fits binary64 s) → T (finite r) → T (finite s) → negative r ≡ negative s → in_units r ≡ in_units s → r ≡ s
same_units nan s f g p q t e = absurd p
same_units (inf a) s f g p q t e = absurd p
same_units (fin a m d) nan f g p q t e = absurd q
same_units (fin a m d) (inf b) f g p q t e = absurd q
same_units (fin a m d) (fin b n c) f g p q t e =
    let u = in_units (fin b n c) in
    sym (of_bits-to_bits binary64 (fin a m d) f)
    ∙ ap (λ (z : ℕ). of_bits binary64 z)
    (bits-by-units a m d u e ∙ ap (λ (z : Bool). cond z (2 ^ 63) 0 + (size u - 53) * hidden + u / 2 ^ (size u - 53)) t ∙ sym (bits-by-units b n c u refl))
    ∙ of_bits-to_bits binary64 (fin b n c) g

neither-way : (a b : ℕ) → (a < b → ⊥) → (b < a → ⊥) → a ≡ b
neither-way a b h g = le_antisymm (at b a g) (at a b h)
  where
    at : (a b : ℕ) → (a < b → ⊥) → b ≤ a
    at a b h = below_next (lt_of_not-le h)
      where
        below_next : b < suc a → b ≤ a
        below_next h = omega arith

crossed : (a b c : ℕ) → a ≤ b → c < a → b < c → ⊥
crossed a b c h g k = omega arith

-- of two that are nearest to two roots, the one to the larger root is no smaller
module _ (x y r s : Float) (A : NearestTo x r) (B : NearestTo y s) where
  pub nearest-grows : in_units x ≤ in_units y → in_units s < in_units r → ⊥
  nearest-grows h g =
      crossed (4 * (in_units x * units_in_one)) (4 * (in_units y * units_in_one)) (square (in_units r + in_units s)) (mul-le-mul_left 4 (mul-le-mul_right units_in_one h))
      ((A.nearer s B.held B.finite).above g)
      (subst (λ (z : ℕ). 4 * (in_units y * units_in_one) < square z) (add_comm (in_units s) (in_units r)) ((B.nearer r A.held A.finite).below g))

-- one f64 alone is nearest
pub nearest-only : (x r s : Float) → NearestTo x r → NearestTo x s → r ≡ s
nearest-only x r s A B =
    same_units r s A.held B.held A.finite B.finite (A.sign ∙ sym B.sign)
    (neither-way (in_units r) (in_units s) (nearest-grows x x s r B A (le_of_eq refl)) (nearest-grows x x r s A B (le_of_eq refl)))

-- ---- exact where the root is an f64: y · y is x without rounding
pub root-exact : (x y : Float) → T (fits binary64 x) → T (finite x) → lt x 0·0 ≡ false → T (fits binary64 y) → T (finite y) → negative y ≡ negative x
    → square (in_units y) ≡ in_units x * units_in_one → root_of x ≡ y
root-exact x y F P l G Q t e =
    let A = root-nearest x F P l in
    let r = in_units (root_of x) in
    let m = in_units y in
    let four : 4 * (in_units x * units_in_one) ≡ 2 * m * (2 * m) = ap (λ (z : ℕ). 4 * z) (sym e) ∙ sym (square-twice m) in
    same_units (root_of x) y A.held G A.finite Q (A.sign ∙ sym t)
    (neither-way r m
    (λ h. not-le_of_lt ((A.nearer y G Q).below h) (le_trans (mul-le-mul (low r m h) (low r m h)) (le_of_eq (sym four))))
    (λ h. not-le_of_lt ((A.nearer y G Q).above h) (le_trans (le_of_eq four) (mul-le-mul (high r m h) (high r m h)))))
  where
    low : (r m : ℕ) → r < m → r + m ≤ 2 * m
    low r m h = omega arith

    high : (r m : ℕ) → m < r → 2 * m ≤ r + m
    high r m h = omega arith

-- ---- it grows with its input
or_l : (a b : Bool) → T a → T (a || b)
or_l true b t = tt
or_l false b t = absurd t

-- a zero is below whatever is above 0
zero-le : (s : Bool) (e : ℤ) (r : Float) → T (positive r) → T (le (fin s 0 e) r)
unfolding le
zero-le s e nan p = absurd p
zero-le s e (inf t) p = absurd p
zero-le s e (fin true n d) p = absurd p
zero-le s e (fin false n d) p =
    or_l (below s (0 * up e * down d) false (n * up d * down e)) (level s (0 * up e * down d) false (n * up d * down e))
    (go s (0 * up e * down d) (n * up d * down e) (ap (λ (z : ℕ). z * down d) (zero-mul (up e)) ∙ zero-mul (down d)) (mul-pos (mul-pos (ltb→lt 0 n p) (up_pos d)) (down_pos e)))
  where
    sum : (a b : ℕ) → 0 < b → 0 < a + b
    sum a b h = omega arith

    go : (s : Bool) (a b : ℕ) → a ≡ 0 → 0 < b → T (below s a false b)
    go true a b z h = lt→ltb 0 (a + b) (sum a b h)
    go false a b z h = lt→ltb a b (subst (λ (c : ℕ). c < b) (sym z) h)

-- nothing above 0 is at most a zero
not-above : (s : Bool) (e : ℤ) (x : Float) → T (positive x) → T (le x (fin s 0 e)) → ⊥
not-above true e x p h = absurd (above_of_le x (fin true 0 e) p h)
not-above false e x p h = absurd (above_of_le x (fin false 0 e) p h)

fraction : (x : Float) → T (positive x) → in_units x ≡ num x * units_in_one / den x
fraction nan p = absurd p
fraction (inf s) p = absurd p
fraction (fin s m e) p = refl

in_order : (x y : Float) → T (positive x) → T (positive y) → T (le x y) → in_units x ≤ in_units y
in_order x y p q h =
    le_trans (le_of_eq (fraction x p))
    (le_trans (div_mono (num x * units_in_one) (den x) (num y * units_in_one) (den y) (den_pos x) (den_pos y)
    (le_trans (le_of_eq (mul_right_comm (num x) units_in_one (den y))) (le_trans (mul-le-mul_right units_in_one (le→cross x y p q h)) (le_of_eq (mul_right_comm (num y) (den x) units_in_one)))))
    (le_of_eq (sym (fraction y q))))

positive-grows : (x y : Float) → T (fits binary64 x) → T (positive x) → T (fits binary64 y) → T (positive y) → T (le x y) → T (le (root_of x) (root_of y))
positive-grows x y F P G Q h =
    le_of_values (root_of x) (root_of y) (in_units (root_of x)) units_in_one (in_units (root_of y)) units_in_one (pow_pos 1074) (pow_pos 1074) (root-value x F P) (root-value y G Q)
    (mul-le-mul_right units_in_one (at-most-of (nearest-grows x y (root_of x) (root_of y) (positive-nearest x F P) (positive-nearest y G Q) (in_order x y P Q h))))
  where
    at-most-of : {a b : ℕ} → (a < b → ⊥) → b ≤ a
    at-most-of {a} {b} h = below_next (lt_of_not-le h)
      where
        below_next : b < suc a → b ≤ a
        below_next h = omega arith

pub root-grows : (x y : Float) → T (fits binary64 x) → T (finite x) → lt x 0·0 ≡ false → T (fits binary64 y) → T (finite y) → lt y 0·0 ≡ false
    → T (le x y) → T (le (root_of x) (root_of y))
unfolding Zero
root-grows x y F P l G Q k h = go (zero-or-above x P l) (zero-or-above y Q k)
  where
    own : (z : Float) → Zero z → root_of z ≡ z
    own z o = ap root_of o.2 ∙ root-zero o.0 o.1 ∙ sym o.2

    go : Zero x ⊎ T (positive x) → Zero y ⊎ T (positive y) → T (le (root_of x) (root_of y))
    go (inl a) (inl b) = subst (λ (z : Float). T (le z (root_of y))) (sym (own x a)) (subst (λ (z : Float). T (le x z)) (sym (own y b)) h)
    go (inl a) (inr q) = subst (λ (z : Float). T (le z (root_of y))) (sym (own x a ∙ a.2)) (zero-le a.0 a.1 (root_of y) (root-positive y G q))
    go (inr p) (inl b) = absurd (not-above b.0 b.1 x p (subst (λ (z : Float). T (le x z)) b.2 h))
    go (inr p) (inr q) = positive-grows x y F p G q h
