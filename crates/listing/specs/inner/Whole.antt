-- Inside the crate: the listing of the bytes of a roll.
use Rattle.std.specs.Prelude.{ℕ, List, []}
use Rattle.roll.specs.Reading.{Reading, got, refused, Roll, roll_at}
use Rattle.listing.specs.Text.{listing_text}

-- of a roll that reads
abbrev pub read_text : Reading Roll → List ℕ
read_text (got r end) = listing_text r
read_text (refused n place) = []

unfoldable pub text_of : List ℕ → List ℕ
text_of s = read_text (roll_at s)
