-- 02, Q-4: one side of a comparison is a roll of either form, told by its first byte.
use Rattle.std.specs.Prelude.{ℕ, cond, List, Result, Ok, Err}
use Rattle.std.specs.Option.{option_map}
use Rattle.kind.specs.declared.refusals.Fault.{Fault}
use Rattle.roll.specs.declared.cursor.Step.{Step}
use Rattle.roll.specs.Reading.{Reading, Roll, roll_at}
use Rattle.roll.specs.Cursor.{Stepped, step_of}
use Rattle.roll.specs.Header.{open_of, check_of}
use Rattle.form2.specs.declared.cursor.Cursor2.{Cursor2}
use Rattle.form2.specs.declared.cursor.Step2.{Step2}
use Rattle.form2.specs.declared.header.Opened2.{Opened2}
use Rattle.form2.specs.Cursor.{Stepped2, step2_of}
use Rattle.form2.specs.Header.{first_cursor, begun_of, is_form2, open2_of, check2_of}
use Rattle.form2.specs.Reading.{roll_at2}
use Rattle.comparing.specs.declared.sides.Side.{Side}
use Rattle.comparing.specs.declared.sides.Sided.{Sided}

-- what the roll says, or its refusal with the place
unfoldable pub side_at : List ℕ → Reading Roll
side_at s = cond (is_form2 s) (roll_at2 s) (roll_at s)

-- the header's answer, and the judge's
unfoldable pub open_side : List ℕ → Result Opened2 Fault
open_side s = cond (is_form2 s) (open2_of s) (begun_of (open_of s))

unfoldable pub check_side : List ℕ → Result Opened2 Fault
check_side s = cond (is_form2 s) (check2_of s) (begun_of (check_of s))

-- a step of the roll's own cursor; one of form 1 holds no term before
abbrev pub first_step : Step → Step2
first_step x = record { term = x.term; next = first_cursor x.next }

abbrev pub as_step2 : Stepped → Stepped2
as_step2 (Ok o) = Ok (option_map first_step o)
as_step2 (Err e) = Err e

unfoldable pub step_side : Cursor2 → List ℕ → Stepped2
step_side c s = cond (is_form2 s) (step2_of c s) (as_step2 (step_of c.cursor s))

-- a refusal of one side's roll
abbrev pub refused_on : Side → Fault → Sided
refused_on at fault = record { side = at; fault = fault }

-- what is answered of one side's roll
abbrev pub on_side : {A : Type 0} → Side → Result A Fault → Result A Sided
on_side at (Ok a) = Ok a
on_side at (Err e) = Err (refused_on at e)
