-- Inside the crate: a number and the place after the byte that ends it, or one that is wrong.
use Rattle.std.specs.Prelude.{ℕ, Option, Some, None}

abbrev pub Numeral : Type 0
Numeral = Option (ℕ × ℕ)

pattern abbrev pub Is : ℕ → ℕ → Numeral
Is n next = Some (n, next)

pattern abbrev pub Wrong : Numeral
Wrong = None
