-- Inside the crate: the text of the bytes of a roll.
use Rattle.std.specs.Prelude.{ℕ, List, []}
use Rattle.roll.specs.Reading.{Reading, got, refused, Roll, roll_at}
use Rattle.exporting.specs.Text.{text_of}

-- of a roll that reads
abbrev pub read_text : Reading Roll → List ℕ
read_text (got r end) = text_of r
read_text (refused n place) = []

unfoldable pub whole_text : List ℕ → List ℕ
whole_text s = read_text (roll_at s)
