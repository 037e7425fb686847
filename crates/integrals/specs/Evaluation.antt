-- 01, "Limits and refusal numbers": an evaluation answers 7 or 14 with its place, then 17 (02, Q-10), 8, 9, 10 or 11, or the integral.
use Rattle.std.specs.Prelude.{ℕ, List, Float, Result, Ok, Err}
use Rattle.geometry.specs.declared.Centre.{Centre}
use Rattle.geometry.specs.Floats.{zero as 0·0}
use Rattle.laws.specs.Total.{total}
use Rattle.roll.specs.Reading.{Reading, got, refused, Roll, roll_at}
use Rattle.kind.specs.declared.refusals.Fault.{Fault}
use Rattle.kind.specs.Refusals.{refusal_number, without_place}
use Rattle.roll.specs.Field.{fault}
use Rattle.integrals.specs.Values.{value_of}

-- the value, or why there is none, with its place
abbrev pub Answer : Type 0
Answer = Result Float Fault

-- a roll that reads is evaluated as listed, and beside a refusal other than 7 and 14 the place is 0 (D-2); one that does not read is refused with its place
unfoldable pub of_roll : Reading Roll → Centre → Centre → Centre → Centre → Float → List Float → Answer
of_roll (got roll end) a b c d aux boys = without_place (value_of roll.kind (total roll.orders) a b c d aux boys roll.terms)
of_roll (refused r place) a b c d aux boys = Err (fault r place)

-- evaluation: 7 or 14, 17, 8, 9, 10, 11
unfoldable pub evaluate_of : List ℕ → Centre → Centre → Centre → Centre → Float → List Float → Answer
evaluate_of s a b c d aux boys = of_roll (roll_at s) a b c d aux boys

-- the number, the place and the f64 that 01 gives each case; 0 is success
abbrev pub refusal_of : Answer → ℕ
refusal_of (Ok x) = 0
refusal_of (Err why) = refusal_number why.refusal

abbrev pub place_of : Answer → ℕ
place_of (Ok x) = 0
place_of (Err why) = why.place

abbrev pub float_of : Answer → Float
float_of (Ok x) = x
float_of (Err why) = 0·0
