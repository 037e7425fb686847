-- The definition, worked out by antt itself: roots and refusals by the bits of the floats. The roots are what an x86-64's own instruction gives.
use mathlib.Core.Path.{◌≡◌, refl}
use Prim.Native.Nat.{ℕ}
use lib.Ieee.{binary64, units, lt, of_bits, to_bits}
use Rattle.root.specs.Root.{root_digits, whole_root, dropped, kept, rounded, nearest_root, root_of, rooted_of, refusal_of}

abbrev root : ℕ → ℕ
root b = to_bits binary64 (root_of (of_bits binary64 b))

abbrev refusal : ℕ → ℕ
refusal b = refusal_of (rooted_of (of_bits binary64 b))

-- 2.0
two : root 0x4000_0000_0000_0000 ≡ 0x3ff6_a09e_667f_3bcd
unfolding to_bits of_bits root_of nearest_root dropped kept rounded whole_root root_digits units
two = refl

-- 9.0, whose root is an f64
nine : root 0x4022_0000_0000_0000 ≡ 0x4008_0000_0000_0000
unfolding to_bits of_bits root_of nearest_root dropped kept rounded whole_root root_digits units
nine = refl

-- the f64 after 1.0: its root is all but halfway between 1.0 and that f64 itself
after_one : root 0x3ff0_0000_0000_0001 ≡ 0x3ff0_0000_0000_0000
unfolding to_bits of_bits root_of nearest_root dropped kept rounded whole_root root_digits units
after_one = refl

-- the f64 before 4.0: all but halfway to 2.0
before-four : root 0x400f_ffff_ffff_ffff ≡ 0x3fff_ffff_ffff_ffff
unfolding to_bits of_bits root_of nearest_root dropped kept rounded whole_root root_digits units
before-four = refl

-- the smallest f64, 2^-1074
least : root 0x0000_0000_0000_0001 ≡ 0x1e60_0000_0000_0000
unfolding to_bits of_bits root_of nearest_root dropped kept rounded whole_root root_digits units
least = refl

-- three of it
three-units : root 0x0000_0000_0000_0003 ≡ 0x1e6b_b67a_e858_4caa
unfolding to_bits of_bits root_of nearest_root dropped kept rounded whole_root root_digits units
three-units = refl

-- the largest subnormal f64
last-subnormal : root 0x000f_ffff_ffff_ffff ≡ 0x1fff_ffff_ffff_ffff
unfolding to_bits of_bits root_of nearest_root dropped kept rounded whole_root root_digits units
last-subnormal = refl

-- the smallest normal f64
first-normal : root 0x0010_0000_0000_0000 ≡ 0x2000_0000_0000_0000
unfolding to_bits of_bits root_of nearest_root dropped kept rounded whole_root root_digits units
first-normal = refl

-- the largest f64
largest : root 0x7fef_ffff_ffff_ffff ≡ 0x5fef_ffff_ffff_ffff
unfolding to_bits of_bits root_of nearest_root dropped kept rounded whole_root root_digits units
largest = refl

-- 0.1, rounded up
tenth : root 0x3fb9_9999_9999_999a ≡ 0x3fd4_3d13_6248_490f
unfolding to_bits of_bits root_of nearest_root dropped kept rounded whole_root root_digits units
tenth = refl

-- −0.0
minus-zero : root 0x8000_0000_0000_0000 ≡ 0x8000_0000_0000_0000
unfolding to_bits of_bits root_of nearest_root dropped kept rounded whole_root root_digits units
minus-zero = refl

-- −∞ is not finite, though below 0
minus-infinity : refusal 0xfff0_0000_0000_0000 ≡ 8
unfolding of_bits rooted_of lt
minus-infinity = refl

-- +∞
infinite : refusal 0x7ff0_0000_0000_0000 ≡ 8
unfolding of_bits rooted_of lt
infinite = refl

-- a NaN with its sign bit
a-nan : refusal 0xfff8_0000_0000_0000 ≡ 8
unfolding of_bits rooted_of lt
a-nan = refl

-- the largest f64 below 0
minus-least : refusal 0x8000_0000_0000_0001 ≡ 18
unfolding of_bits rooted_of lt
minus-least = refl

-- −0.0 is not below 0
minus-zero-is : refusal 0x8000_0000_0000_0000 ≡ 0
unfolding of_bits rooted_of lt
minus-zero-is = refl
