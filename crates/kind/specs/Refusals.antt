-- 01, "Limits and refusal numbers", with those of 02: each refusal's number once.
use Rattle.std.specs.Prelude.{ℕ, Result, Ok, Err}
use Rattle.kind.specs.declared.refusals.Refusal.{Refusal}
use Rattle.kind.specs.declared.refusals.Fault.{Fault}
use Rattle.kind.specs.declared.refusals.Refusal.TheVariants.{WrongKind, OrderSum, UnusedOrder, TooManyTerms, StartBeyondEnd, NoRoom, BadRoll, InputNotFinite, Exponent, BoysCount, ResultNotFinite, MatrixSize, ComponentNumber, CutRoll, PrimitiveCount, HostCount, Nuclei, BelowZero, OutsideProfile, NotTheExpansion, LineShape, LineNumbers}

abbrev pub refusal_number : Refusal → ℕ
refusal_number WrongKind = 1
refusal_number OrderSum = 2
refusal_number UnusedOrder = 3
refusal_number TooManyTerms = 4
refusal_number StartBeyondEnd = 5
refusal_number NoRoom = 6
refusal_number BadRoll = 7
refusal_number InputNotFinite = 8
refusal_number Exponent = 9
refusal_number BoysCount = 10
refusal_number ResultNotFinite = 11
refusal_number MatrixSize = 12
refusal_number ComponentNumber = 13
refusal_number CutRoll = 14
refusal_number PrimitiveCount = 15
refusal_number HostCount = 16
refusal_number Nuclei = 17
refusal_number BelowZero = 18
refusal_number OutsideProfile = 19
refusal_number NotTheExpansion = 20
refusal_number LineShape = 21
refusal_number LineNumbers = 22

-- beside a refusal that has no place the place is 0 (D-2)
abbrev pub unplaced : Refusal → Fault
unplaced r = record { refusal = r; place = 0 }

-- an answer whose refusals have no place
abbrev pub without_place : {A : Type 0} → Result A Refusal → Result A Fault
without_place (Ok a) = Ok a
without_place (Err r) = Err (unplaced r)
