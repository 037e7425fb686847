-- A text that is told: how many bytes it has, or a refusal with its place.
use Rattle.std.specs.Prelude.{ℕ, Result, Ok, Err}
use Rattle.kind.specs.declared.refusals.Refusal.{Refusal}
use Rattle.kind.specs.declared.refusals.Fault.{Fault}
use Rattle.roll.specs.Field.{fault}

abbrev pub Listed : Type 0
Listed = Result ℕ Fault

pattern abbrev pub Text : ℕ → Listed
Text n = Ok n

abbrev pub Refused : Refusal → ℕ → Listed
Refused refusal place = Err (fault refusal place)
