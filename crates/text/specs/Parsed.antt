-- What stands at a place of a text, as the code answers it: a number and the place after it, or none.
use Rattle.std.specs.Prelude.{ℕ, Option, Some, None}

abbrev pub Parsed : Type 0
Parsed = Option (ℕ × ℕ)

pattern abbrev pub Is : ℕ → ℕ → Parsed
Is n next = Some (n, next)

pattern abbrev pub Not : Parsed
Not = None
