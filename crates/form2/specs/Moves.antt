-- 02, Q-7: the moves between the two forms. Both read a roll and write what it says; refusals of reading come first, then 5 and 6 for the output.
use Rattle.std.specs.Prelude.{ℕ, ◌+◌, ◌≡◌, cond, List, ltb, length, Result, Ok, Err}
use Rattle.laws.specs.Placed.{placed}
use Rattle.kind.specs.declared.refusals.Refusal.TheVariants.{StartBeyondEnd, NoRoom}
use Rattle.kind.specs.declared.refusals.Fault.{Fault}
use Rattle.kind.specs.Refusals.{refusal_number}
use Rattle.roll.specs.Field.{fault}
use Rattle.roll.specs.Reading.{Reading, got, refused, Roll, roll_at}
use Rattle.roll.specs.Bytes.{roll_bytes}
use Rattle.form2.specs.declared.moves.Moved.{Moved}
use Rattle.form2.specs.Bytes.{roll_bytes2}
use Rattle.form2.specs.Reading.{roll_at2}

-- what is written of a roll in each form
unfoldable pub in_form1 : Roll → List ℕ
in_form1 r = roll_bytes r.kind r.orders r.terms

unfoldable pub in_form2 : Roll → List ℕ
in_form2 r = roll_bytes2 r.kind r.orders r.terms

-- 5 for a start beyond the output, then 6 where the bytes have no room, or their length and the term count
unfoldable pub moved_into : List ℕ → ℕ → List ℕ → ℕ → Result Moved Fault
moved_into bytes terms out start =
    cond (ltb (length out) start) (Err (fault StartBeyondEnd 0))
    (cond (ltb (length out) (start + length bytes)) (Err (fault NoRoom 0))
    (Ok (record { length = length bytes; terms = terms })))

-- before them the refusal of reading, with its place
abbrev pub moved_of : (Roll → List ℕ) → Reading Roll → List ℕ → ℕ → Result Moved Fault
moved_of form (got r end) out start = moved_into (form r) (length r.terms) out start
moved_of form (refused n place) out start = Err (fault n place)

-- a refusal changes no byte; a success only those of the roll
abbrev pub bytes_out : Result Moved Fault → List ℕ → List ℕ → ℕ → List ℕ
bytes_out (Ok moved) bytes out start = placed out start bytes
bytes_out (Err e) bytes out start = out

abbrev pub out_of : (Roll → List ℕ) → Reading Roll → List ℕ → ℕ → List ℕ
out_of form (got r end) out start = bytes_out (moved_into (form r) (length r.terms) out start) (form r) out start
out_of form (refused n place) out start = out

-- what a move answers, and what the output then holds
pub record MoveTold (form : Roll → List ℕ) (reading : Reading Roll) (out : List ℕ) (start : ℕ) (r : Result Moved Fault) (after : List ℕ) : Type 0 where
  pub answer : r ≡ moved_of form reading out start
  pub bytes : after ≡ out_of form reading out start

-- from form 1 to form 2, and back
abbrev pub ToForm2Told : List ℕ → List ℕ → ℕ → Result Moved Fault → List ℕ → Type 0
ToForm2Told s out start r after = MoveTold in_form2 (roll_at s) out start r after

abbrev pub ToForm1Told : List ℕ → List ℕ → ℕ → Result Moved Fault → List ℕ → Type 0
ToForm1Told s out start r after = MoveTold in_form1 (roll_at2 s) out start r after

-- 01's refusal number, place, length and term count of each answer; 0 is none
abbrev pub refusal_of : Result Moved Fault → ℕ
refusal_of (Ok moved) = 0
refusal_of (Err e) = refusal_number e.refusal

abbrev pub place_of : Result Moved Fault → ℕ
place_of (Ok moved) = 0
place_of (Err e) = e.place

abbrev pub length_in : Result Moved Fault → ℕ
length_in (Ok moved) = moved.length
length_in (Err e) = 0

abbrev pub count_in : Result Moved Fault → ℕ
count_in (Ok moved) = moved.terms
count_in (Err e) = 0
