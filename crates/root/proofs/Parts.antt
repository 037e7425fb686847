-- The steps of the code on whole numbers: each law is a return or a need of one function.
use mathlib.Core.Path.{◌≡◌, sym, ap, ◌∙◌}
use Prim.Native.Nat.{ℕ, zero, suc, ◌+◌, ◌-◌, ◌*◌, ◌/◌, ◌%◌, ◌^◌, ◌≤◌, ◌<◌}
use native.Mathlib.Nat.{not-suc-le-zero, zero-lt-suc, le_trans, lt_of_le_of_lt, mul_comm, mul_assoc, mul-le-mul, mul-le-mul_right, div-add-mod', div-div-eq-div-mul, div-lt_iff_lt-mul, mod-lt, pow-suc}
use native.Mathlib.Omega.{arith}
use borrow.Author.Tests.{lt-ltb, le-ltb}
use lib.Dec.{lit<}
use lib.Pow.{pow-add}
use Rattle.root.specs.declared.Part.{Part}
use Rattle.root.specs.inner.Digits.{hidden, WholeTold, DigitTold, FurtherMay, NearerTold, ScaledTold}
use Rattle.root.proofs.Squares.{further-square, further-short, further-digits, one_less}

-- ---- the nearer whole number
pub nearer-above : (p : Part) → p.root < p.rest → p.root < 2 * hidden → NearerTold p (p.root + 1)
nearer-above p h m = record { same = rw (lt-ltb p.root p.rest h); most = omega arith }

pub nearer-below : (p : Part) → p.rest ≤ p.root → p.root < 2 * hidden → NearerTold p p.root
nearer-below p h m = record { same = rw (le-ltb p.root p.rest h); most = omega arith }

-- ---- an even power of two
pub even_power : (d p : ℕ) → p % 2 ≡ 0 → hidden ≤ d → d < 2 * hidden → 52 ≤ p → p ≤ 3200 → ScaledTold (d * 2 ^ p) (record { digits = d; half = p / 2 })
even_power d p e a b c f = record {
  same = ap (λ (x : ℕ). d * x) (sym (pow-add 2 (p / 2) (p / 2)) ∙ ap (λ (x : ℕ). 2 ^ x) halves);
  least = a;
  most = omega arith;
  from = omega arith;
  upto = omega arith;
}
  where
    halves : p / 2 + p / 2 ≡ p
    halves = omega arith

pub odd_power : (d p : ℕ) → (p % 2 ≡ 0 → ⊥) → hidden ≤ d → d < 2 * hidden → 52 ≤ p → p ≤ 3200 → ScaledTold (d * 2 ^ p) (record { digits = 2 * d; half = p / 2 })
odd_power d p e a b c f = record {
  same =
      mul_comm (2 * d) (2 ^ (p / 2) * 2 ^ (p / 2))
      ∙ ap (λ (x : ℕ). x * (2 * d)) (sym (pow-add 2 (p / 2) (p / 2)))
      ∙ omega (arith, mul_assoc (2 ^ (p / 2 + p / 2)) 2 d, mul_comm (2 ^ (p / 2 + p / 2) * 2) d, ap (λ (x : ℕ). d * x) (sym (pow-suc 2 (p / 2 + p / 2)) ∙ ap (λ (x : ℕ). 2 ^ x) halves));
  least = omega arith;
  most = omega arith;
  from = omega arith;
  upto = omega arith;
}
  where
    halves : suc (p / 2 + p / 2) ≡ p
    halves = omega arith

-- ---- seven digits: each turn takes two digits of the number
turn : (a b m : ℕ) → b ≡ 4 * a + m % 4 → a ≡ m / 4 → b ≡ m
turn a b m e h = omega arith

pub seven-digits : (n : ℕ) (b c d e f r : Part)
    → DigitTold (record { root = 1; rest = n / 4096 - 1 }) (n / 1024 % 4) b
    → DigitTold b (n / 256 % 4) c
    → DigitTold c (n / 64 % 4) d
    → DigitTold d (n / 16 % 4) e
    → DigitTold e (n / 4 % 4) f
    → DigitTold f (n % 4) r
    → 2 ^ 12 ≤ n → WholeTold n r
seven-digits n b c d e f r B C D E F R l =
    let first : 1 * 1 + (n / 4096 - 1) ≡ n / 1024 / 4 = start n l in
    let two = turn (1 * 1 + (n / 4096 - 1)) (b.root * b.root + b.rest) (n / 1024) B.square first in
    let three = turn (b.root * b.root + b.rest) (c.root * c.root + c.rest) (n / 256) C.square (two ∙ quarter n 256) in
    let four = turn (c.root * c.root + c.rest) (d.root * d.root + d.rest) (n / 64) D.square (three ∙ quarter n 64) in
    let five = turn (d.root * d.root + d.rest) (e.root * e.root + e.rest) (n / 16) E.square (four ∙ quarter n 16) in
    let six = turn (e.root * e.root + e.rest) (f.root * f.root + f.rest) (n / 4) F.square (five ∙ quarter n 4) in
    record { square = turn (f.root * f.root + f.rest) (r.root * r.root + r.rest) n R.square six; short = R.short }
  where
    start : (n : ℕ) → 2 ^ 12 ≤ n → 1 * 1 + (n / 4096 - 1) ≡ n / 1024 / 4
    start n l = omega arith

    quarter : (n k : ℕ) → n / (k * 4) ≡ n / k / 4
    quarter n k = sym (div-div-eq-div-mul n k 4)

-- ---- more digits by a division: every number on the way fits
carried : (b l : ℕ) → 0 < b → l < b * b → l / b < b
carried b l z h = (div-lt_iff_lt-mul z).1 h

module _ (p : Part) (b l : ℕ) (may : FurtherMay p b l) where
  -- what is divided, by what, and the quotient
  abbrev over : ℕ
  over = p.rest * b + l / b

  abbrev twice : ℕ
  twice = 2 * p.root

  abbrev more : ℕ
  more = over / twice

  abbrev left : ℕ
  left = over % twice * b + l % b

  divides : more * twice + over % twice ≡ over
  divides = div-add-mod' over twice

  positive : 0 < p.root
  positive = omega arith

  carry : l / b < b
  carry = carried b l may.above may.below

  last : l % b < b
  last = mod-lt l may.above

  rest-small : p.rest ≤ 2 ^ 28
  rest-small = omega arith

  root-small : p.root ≤ 2 ^ 27
  root-small = omega arith

  remains : over % twice < twice
  remains = mod-lt over (omega arith)

  remains-small : over % twice ≤ 2 ^ 28
  remains-small = omega (arith, remains)

  over-product : p.rest * b ≤ 2 ^ 54
  over-product = mul-le-mul rest-small may.small

  pub over_first : p.rest * b < 2 ^ 64
  over_first = omega (arith, over-product)

  pub over-sum : over < 2 ^ 64
  over-sum = omega (arith, over-product, carry)

  root-product : p.root * b ≤ 2 ^ 53
  root-product = mul-le-mul root-small may.small

  pub root-first : p.root * b < 2 ^ 64
  root-first = omega (arith, root-product)

  more-digits : more ≤ b
  more-digits = further-digits p.root p.rest b (l / b) (l % b) more (over % twice) divides positive may.short carry may.least

  root-most-of : p.root * b + more ≤ 2 ^ 54
  root-most-of = omega (arith, root-product, more-digits)

  pub root-sum : p.root * b + more < 2 ^ 64
  root-sum = omega (arith, root-most-of)

  left-product : over % twice * b ≤ 2 ^ 54
  left-product = mul-le-mul remains-small may.small

  pub left-first : over % twice * b < 2 ^ 64
  left-first = omega (arith, left-product)

  pub left-sum : left < 2 ^ 64
  left-sum = omega (arith, left-product, last)

  pub square-small : more * more < 2 ^ 64
  square-small = lt_of_le_of_lt (mul-le-mul more-digits more-digits) (lt_of_le_of_lt (mul-le-mul may.small may.small) (lit< tt))

  pub twice-root : 2 * (p.root * b + more) < 2 ^ 64
  twice-root = omega (arith, root-most-of)

  pub room-sum : left + 2 * (p.root * b + more) < 2 ^ 64
  room-sum = omega (arith, root-most-of, left-product, last)

  square-is : (p.root * b + more) * (p.root * b + more) + left ≡ (p.root * p.root + p.rest) * (b * b) + l + more * more
  square-is =
      further-square p.root p.rest b (l / b) (l % b) more (over % twice) divides
      ∙ ap (λ (x : ℕ). (p.root * p.root + p.rest) * (b * b) + x + more * more) (div-add-mod' l b)

  short-is : left < 2 * (p.root * b)
  short-is = further-short p.root p.rest b (l / b) (l % b) more (over % twice) divides remains last

  pub further-kept : more * more ≤ left → WholeTold ((p.root * p.root + p.rest) * (b * b) + l) (record { root = p.root * b + more; rest = left - more * more })
  further-kept h = record { square = omega (arith, square-is); short = omega (arith, short-is) }

  -- a quotient that is one too large
  further-some : left < more * more → 0 < more
  further-some h = above more h
    where
      above : (m : ℕ) → left < m * m → 0 < m
      above zero h = absurd (not-suc-le-zero h)
      above (suc m) h = zero-lt-suc m

  pub further-root : left < more * more → 1 ≤ p.root * b + more
  further-root h = omega (arith, further-some h)

  pub further-sum : left < more * more → 1 ≤ left + 2 * (p.root * b + more)
  further-sum h = omega (arith, further-some h)

  pub further-room : left < more * more → more * more ≤ left + 2 * (p.root * b + more) - 1
  further-room h =
      omega (arith, further-some h, le_trans (mul-le-mul more-digits more-digits) (mul-le-mul_right b may.least), mul_assoc 2 p.root b)

  pub further-less : left < more * more
      → WholeTold ((p.root * p.root + p.rest) * (b * b) + l) (record { root = p.root * b + more - 1; rest = left + 2 * (p.root * b + more) - 1 - more * more })
  further-less h = record {
    square = omega (arith, square-is, further-room h, further-some h, one_less (p.root * b + more) (omega (arith, further-some h)));
    short = omega (arith, further-room h, further-some h);
  }
