-- Floats of binary64: each operation is rounded once, and reads from left to right as in the Rust.
use Rattle.std.specs.Prelude.{ℕ, ◌-◌, Bool, List, ◌++◌, Float, length, replicate}
use Rattle.std.specs.List.{list_all}
use Rattle.std.specs.Float.{binary64}
use Rattle.std.specs.Float.Ieee.{add, sub, mul, div, lt, of_bits}
use Rattle.std.specs.Float.Ieee.Scale.{finite}

infixl 60 ◌⊕◌ ◌⊖◌
infixl 70 ◌⊗◌ ◌⊘◌
abbrev pub ◌⊕◌ : Float → Float → Float
x ⊕ y = add binary64 x y

abbrev pub ◌⊖◌ : Float → Float → Float
x ⊖ y = sub binary64 x y

abbrev pub ◌⊗◌ : Float → Float → Float
x ⊗ y = mul binary64 x y

abbrev pub ◌⊘◌ : Float → Float → Float
x ⊘ y = div binary64 x y

-- 0.0, 0.5, 1.0, 2.0 and 3.0 by their bits
abbrev pub zero : Float
zero = of_bits binary64 0

abbrev pub half : Float
half = of_bits binary64 0x3fe0_0000_0000_0000

abbrev pub one : Float
one = of_bits binary64 0x3ff0_0000_0000_0000

abbrev pub two : Float
two = of_bits binary64 0x4000_0000_0000_0000

abbrev pub three : Float
three = of_bits binary64 0x4008_0000_0000_0000

-- powi(2) is x·x
abbrev pub square : Float → Float
square x = x ⊗ x

-- neither −0.0 nor a NaN is above 0 (D-26)
abbrev pub above_zero : Float → Bool
above_zero x = lt zero x

unfoldable pub all_finite : List Float → Bool
all_finite xs = list_all finite xs

unfoldable pub all_above_zero : List Float → Bool
all_above_zero xs = list_all above_zero xs

-- a list by value in n places, the rest 0.0 (D-61)
abbrev pub in_places : ℕ → List Float → List Float
in_places n xs = xs ++ replicate (n - length xs) zero
