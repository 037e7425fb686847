-- What the import answers: the roll's length and its terms, or a refusal and its line.
use Rattle.std.specs.Prelude.{ℕ, Result, Ok, Err}
use Rattle.kind.specs.declared.refusals.Refusal.{Refusal}
use Rattle.importing.specs.declared.Imported.{Imported}
use Rattle.importing.specs.declared.ImportFault.{ImportFault}

abbrev pub Answer : Type 0
Answer = Result Imported ImportFault

abbrev pub Roll : ℕ → ℕ → Answer
Roll length terms = Ok (record { length = length; terms = terms })

abbrev pub Refused : Refusal → ℕ → Answer
Refused refusal line = Err (record { refusal = refusal; line = line })
