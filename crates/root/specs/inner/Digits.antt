-- Words of the inner contracts: a root in the making, and a float's bits taken apart.
use Rattle.std.specs.Prelude.{ℕ, ◌+◌, ◌-◌, ◌*◌, ◌/◌, ◌%◌, ◌^◌, ◌≤◌, ◌<◌, ◌≡◌, cond, ltb}
use Rattle.std.specs.Float.{binary64}
use Rattle.std.specs.Float.Ieee.{of_bits}
use Rattle.root.specs.declared.Part.{Part}
use Rattle.root.specs.declared.Scaled.{Scaled}
use Rattle.root.specs.Root.{nearest_root}

-- the leading digit of a float, which its bits leave out
abbrev pub hidden : ℕ
hidden = 2 ^ 52

-- the bits of the infinity; those of finite floats of 0 or above are below
abbrev pub infinite : ℕ
infinite = 2047 * hidden

-- the whole root of n, and what is left of n beside its square
pub record WholeTold (n : ℕ) (r : Part) : Type 0 where
  pub square : r.root * r.root + r.rest ≡ n
  pub short : r.rest ≤ 2 * r.root

-- two digits more of the number
pub record DigitTold (part : Part) (pair : ℕ) (r : Part) : Type 0 where
  pub square : r.root * r.root + r.rest ≡ 4 * (part.root * part.root + part.rest) + pair
  pub short : r.rest ≤ 2 * r.root
  pub most : r.root ≤ 2 * part.root + 1

-- a root has at least as many digits as are to follow, and all of them fit into 53
pub record FurtherMay (part : Part) (base low : ℕ) : Type 0 where
  pub short : part.rest ≤ 2 * part.root
  pub below : low < base * base
  pub least : base ≤ 2 * part.root
  pub most : part.root < 2 ^ 27
  pub above : 0 < base
  pub small : base ≤ 2 ^ 26

-- the root of n with 52 zeros behind it, in 53 digits
pub record RootTold (n : ℕ) (r : Part) : Type 0 where
  pub square : r.root * r.root + r.rest ≡ n * hidden
  pub short : r.rest ≤ 2 * r.root
  pub least : hidden ≤ r.root
  pub most : r.root < 2 * hidden

-- more than halfway to the next whole number, (root + 1/2)² being root² + root + 1/4
abbrev pub nearer : Part → ℕ
nearer part = cond (ltb part.root part.rest) (part.root + 1) part.root

pub record NearerTold (part : Part) (r : ℕ) : Type 0 where
  pub same : r ≡ nearer part
  pub most : r ≤ 2 * hidden

-- digits moved up by so many places begin with the leading one
pub record ZerosTold (digits up : ℕ) : Type 0 where
  pub least : hidden ≤ digits * 2 ^ up
  pub most : digits * 2 ^ up < 2 * hidden
  pub few : up ≤ 52

-- the units that bits stand for, of a finite float of 0 or above
unfoldable pub bits_units : ℕ → ℕ
bits_units b = cond (ltb b hidden) b ((hidden + b % hidden) * 2 ^ (b / hidden - 1))

-- n as digits · 4 ^ half, with 53 or 54 digits
pub record ScaledTold (n : ℕ) (r : Scaled) : Type 0 where
  pub same : r.digits * (2 ^ r.half * 2 ^ r.half) ≡ n
  pub least : hidden ≤ r.digits
  pub most : r.digits < 4 * hidden
  pub from : 26 ≤ r.half
  pub upto : r.half ≤ 1600

-- the bits of a root are no infinity's or NaN's
pub record BitsTold (b r : ℕ) : Type 0 where
  pub root : of_bits binary64 r ≡ nearest_root (bits_units b)
  pub finite : r < infinite
