-- 02, Q-12: the root of an f64 is the nearest f64 to the exact root, ties to even, said over whole numbers by comparing squares.
use Prim.Native.Nat.{ℕ, zero, suc, ◌+◌, ◌-◌, ◌*◌, ◌/◌, ◌^◌, compare}
use Rattle.std.specs.Prelude.{true, false, cond, leb, Float, Result, Ok, Err}
use Rattle.std.specs.Float.{nan, inf, fin, binary64}
use Rattle.std.specs.Float.Ieee.{prec, low, up, down, size, nearest, units, lt}
use Rattle.std.specs.Float.Ieee.Scale.{finite}
use Rattle.kind.specs.declared.refusals.Refusal.{Refusal}
use Rattle.kind.specs.declared.refusals.Refusal.TheVariants.{InputNotFinite, BelowZero}
use Rattle.kind.specs.Refusals.{refusal_number}
use Rattle.geometry.specs.Floats.{zero as 0·0}

-- the smallest f64 above 0 is 2^-1074, a unit: every finite f64 is a whole number of units
abbrev pub units_in_one : ℕ
units_in_one = 2 ^ low binary64

abbrev pub in_units : Float → ℕ
in_units nan = 0
in_units (inf s) = 0
in_units (fin s m e) = m * up e * units_in_one / down e

abbrev pub square : ℕ → ℕ
square n = n * n

-- one binary digit more of a root: w is the whole root of n / 4, and 2w or 2w + 1 that of n
abbrev pub one_digit_more : ℕ → ℕ → ℕ
one_digit_more n w = cond (leb (square (2 * w + 1)) n) (2 * w + 1) (2 * w)

-- by digits: two of the number for one of the root, d of the root at most
unfoldable pub root_digits : ℕ → ℕ → ℕ
root_digits zero n = 0
root_digits (suc d) n = one_digit_more n (root_digits d (n / 4))

-- the whole root, the largest number whose square is at most n; it has no more digits than n
unfoldable pub whole_root : ℕ → ℕ
whole_root n = root_digits (size n) n

-- of the root of x an f64 keeps the leading 53 binary digits, and drops the others
unfoldable pub dropped : ℕ → ℕ
dropped x = size (whole_root x) - prec binary64

unfoldable pub kept : ℕ → ℕ
kept x = whole_root x / 2 ^ dropped x

-- the root of x lies between kept and kept + 1, each times 2 ^ dropped. Halfway between them is (2 · kept + 1) · 2 ^ dropped / 2, whose square is
-- held against x: below it kept is nearer, above it kept + 1; at a tie, which no f64 gives, it would be the even one
unfoldable pub rounded : ℕ → ℕ
rounded x = nearest (kept x) (compare (4 * x) (square ((2 * kept x + 1) * 2 ^ dropped x)))

-- n units are n · 2^1074 squares of a unit, so their root has as many units as the root of that number
unfoldable pub nearest_root : ℕ → Float
nearest_root n = let x = n * units_in_one in units binary64 false (rounded x) (dropped x)

-- the root of −0.0 is −0.0; where no root is asked for it is what IEEE 754 says (D-113)
unfoldable pub root_of : Float → Float
root_of nan = nan
root_of (inf s) = cond s nan (inf s)
root_of (fin s zero e) = fin s zero e
root_of (fin true (suc m) e) = nan
root_of (fin false (suc m) e) = nearest_root (in_units (fin false (suc m) e))

-- 8 for a float that isn't finite, then 18 for one below 0; −0.0 is not below 0
unfoldable pub rooted_of : Float → Result Float Refusal
rooted_of x = cond (finite x) (cond (lt x 0·0) (Err BelowZero) (Ok (root_of x))) (Err InputNotFinite)

-- the number that 02 gives each case; 0 is success
abbrev pub refusal_of : Result Float Refusal → ℕ
refusal_of (Ok r) = 0
refusal_of (Err refusal) = refusal_number refusal
