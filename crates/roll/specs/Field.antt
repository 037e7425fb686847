-- A number of a roll as the code answers it: the number and the place after it, or a refusal with its place.
use Rattle.std.specs.Prelude.{ℕ, Result, Ok, Err}
use Rattle.kind.specs.declared.refusals.Refusal.{Refusal}
use Rattle.kind.specs.declared.refusals.Fault.{Fault}

abbrev pub Field : Type 0
Field = Result (ℕ × ℕ) Fault

pattern abbrev pub Is : ℕ → ℕ → Field
Is n next = Ok (n, next)

abbrev pub fault : Refusal → ℕ → Fault
fault refusal place = record { refusal = refusal; place = place }

abbrev pub Refused : Refusal → ℕ → Field
Refused refusal place = Err (fault refusal place)
