-- What the program writes of a roll, whatever its bytes are.
use Rattle.std.specs.Prelude.{ℕ, cond, List, ltb, length}
use Rattle.kind.specs.Limits.{most_listed}
use Rattle.kind.specs.Refusals.{refusal_number}
use Rattle.roll.specs.Reading.{Reading, got, refused, Roll, roll_at}
use Rattle.listing.specs.Text.{listing_text, refusal_text}

-- a bad roll is 7 or 14 at its place, and nothing else
abbrev pub read_output : Reading Roll → List ℕ
read_output (got r end) = listing_text r
read_output (refused n place) = refusal_text (refusal_number n) place

-- the listing; a roll of more bytes than the listing takes is 6
unfoldable pub output_of : List ℕ → List ℕ
output_of roll = cond (ltb most_listed (length roll)) (refusal_text 6 0) (read_output (roll_at roll))
