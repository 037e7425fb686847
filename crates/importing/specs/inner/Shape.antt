-- Inside the crate: how many numbers a line has, and the place after its line feed; or no line of the shape.
use Rattle.std.specs.Prelude.{ℕ, Option, Some, None}

abbrev pub Shape : Type 0
Shape = Option (ℕ × ℕ)

pattern abbrev pub Line : ℕ → ℕ → Shape
Line n next = Some (n, next)

pattern abbrev pub Broken : Shape
Broken = None
