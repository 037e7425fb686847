-- Inside the crate: of a term's line, how many bytes its writing has and the place of the next line; or a refusal.
use Rattle.std.specs.Prelude.{ℕ, Result, Ok, Err}
use Rattle.kind.specs.declared.refusals.Refusal.{Refusal}

abbrev pub Size : Type 0
Size = Result (ℕ × ℕ) Refusal

pattern abbrev pub Is : ℕ → ℕ → Size
Is size next = Ok (size, next)

pattern abbrev pub Refused : Refusal → Size
Refused refusal = Err refusal
