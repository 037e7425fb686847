-- 02, Q-14: the answer of the export, and what the buffer then holds: the refusals of reading first, then 5 and 6.
use Rattle.std.specs.Prelude.{ℕ, ◌+◌, ◌*◌, ◌≡◌, List}
use Rattle.kind.specs.Limits.{most_terms, most_l·any, request_orders}
use Rattle.laws.specs.Placed.{placed_where_fits}
use Rattle.roll.specs.Reading.{Reading, got, refused, Roll, roll_at}
use Rattle.listing.specs.Listed.{Listed}
use Rattle.listing.specs.Listed as listed
use Rattle.listing.specs.Answers.{text_at}
use Rattle.exporting.specs.Text.{text_of}

-- a roll that breaks a rule is 7, one that ends before a number does 14, with the place
abbrev pub read_answer : Reading Roll → List ℕ → ℕ → Listed
read_answer (got r end) out start = text_at (text_of r) out start
read_answer (refused n place) out start = listed.Refused n place

abbrev pub read_out : Reading Roll → List ℕ → ℕ → List ℕ
read_out (got r end) out start = placed_where_fits out start (text_of r)
read_out (refused n place) out start = out

unfoldable pub export_of : List ℕ → List ℕ → ℕ → Listed
export_of roll out start = read_answer (roll_at roll) out start

unfoldable pub export_out : List ℕ → List ℕ → ℕ → List ℕ
export_out roll out start = read_out (roll_at roll) out start

pub record ExportTold (roll before : List ℕ) (start : ℕ) (r : Listed) (after : List ℕ) : Type 0 where
  pub answer : r ≡ export_of roll before start
  pub out : after ≡ export_out roll before start

-- ---- the longest text: each number at its limit

-- a digit of the kind, twelve orders of one digit, the count, and the line feed
abbrev pub most_first : ℕ
most_first = 1 + 2 * request_orders + 8 + 1

-- a scale of ten digits, a Boys order of two, as many prefactors of two as a term may have, and the line feed
abbrev pub most_line : ℕ
most_line = 10 + 3 + 3 * most_l·any + 1

abbrev pub most_text : ℕ
most_text = most_first + most_terms * most_line
