-- 02, Q-12, in other words than Root: what "the nearest f64 to the exact root" means, said of every f64 at once.
use Rattle.std.specs.Prelude.{ℕ, ◌+◌, ◌-◌, ◌*◌, ◌^◌, ◌≤◌, ◌<◌, ◌≡◌, Bool, false, T, Float}
use Rattle.std.specs.Float.{nan, inf, fin, binary64}
use Rattle.std.specs.Float.Ieee.{fits}
use Rattle.std.specs.Float.Ieee.Scale.{finite as is_finite}
use Rattle.root.specs.Root.{units_in_one, in_units, square}

-- Of r and y units r is the nearer to the root of x units: the number halfway between them lies on y's side of the root. Halfway is (r + y) / 2,
-- and the root is that of x · 2^1074, so the square of r + y is held against four times that number
pub record NearerThan (x r y : ℕ) : Type 0 where
  pub above : y < r → square (r + y) < 4 * (x * units_in_one)
  pub below : r < y → 4 * (x * units_in_one) < square (r + y)

-- the same by neighbours: r is digits · 2 ^ places units with 53 digits, or the next number, and the squares of the numbers halfway to its neighbours,
-- each of them doubled, enclose four times x · 2^1074. (The lower neighbour of 2^52 · 2 ^ places is nearer than that; NearerThan has it too)
pub record Enclosed (x r : ℕ) : Type 0 where
  pub digits : ℕ
  pub places : ℕ
  pub same : r ≡ digits * 2 ^ places
  pub least : 2 ^ 52 ≤ digits
  pub most : digits ≤ 2 ^ 53
  pub from : square ((2 * digits - 1) * 2 ^ places) < 4 * (x * units_in_one)
  pub to : 4 * (x * units_in_one) < square ((2 * digits + 1) * 2 ^ places)

abbrev pub negative : Float → Bool
negative nan = false
negative (inf s) = s
negative (fin s m e) = s

-- The f64 r is nearer to the root of x than every other f64 of its sign: none is as near, so no tie is left to settle. It has the sign of x, so the root of
-- −0.0 is −0.0
pub record NearestTo (x r : Float) : Type 0 where
  pub held : T (fits binary64 r)
  pub finite : T (is_finite r)
  pub sign : negative r ≡ negative x
  pub nearer : (y : Float) → T (fits binary64 y) → T (is_finite y) → NearerThan (in_units x) (in_units r) (in_units y)
