-- What a request is answered: its roll's length and its term count, or a refusal.
use Rattle.std.specs.Prelude.{ℕ, Result, Ok, Err}
use Rattle.kind.specs.declared.refusals.Refusal.{Refusal}
use Rattle.expansion.specs.declared.Expanded.{Expanded}

abbrev pub Answer : Type 0
Answer = Result Expanded Refusal

abbrev pub Roll : ℕ → ℕ → Answer
Roll long terms = Ok (record { length = long; terms = terms })

pattern abbrev pub Refused : Refusal → Answer
Refused refusal = Err refusal
