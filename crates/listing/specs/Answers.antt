-- The answers of the listing and of a refusal's line, with 01's refusals in the order of D-17.
use Rattle.std.specs.Prelude.{ℕ, ◌+◌, ◌≡◌, cond, List, ltb, length}
use Rattle.laws.specs.Placed.{placed_where_fits}
use Rattle.kind.specs.Limits.{most_listed}
use Rattle.roll.specs.Reading.{Reading, got, refused, Roll, roll_at}
use Rattle.listing.specs.Listed.{Listed}
use Rattle.listing.specs.Listed as listed
use Rattle.listing.specs.Text.{listing_text}
use Rattle.kind.specs.declared.refusals.Refusal.TheVariants.{StartBeyondEnd, NoRoom}

-- a text from a start place on: 5 a start beyond the end, 6 no room, or the text's length; their place is 0 (D-2)
unfoldable pub text_at : List ℕ → List ℕ → ℕ → Listed
text_at text out start =
    cond (ltb (length out) start) (listed.Refused StartBeyondEnd 0)
    (cond (ltb (length out) (start + length text)) (listed.Refused NoRoom 0)
    (listed.Text (length text)))

-- only the bytes of the text change, and none where it does not fit
pub record TextTold (text before : List ℕ) (start : ℕ) (r : Listed) (after : List ℕ) : Type 0 where
  pub answer : r ≡ text_at text before start
  pub out : after ≡ placed_where_fits before start text

-- a roll that breaks a rule is 7, one that ends before a number does 14, with the place
abbrev pub read_answer : Reading Roll → List ℕ → ℕ → Listed
read_answer (got r end) out start = text_at (listing_text r) out start
read_answer (refused n place) out start = listed.Refused n place

abbrev pub read_out : Reading Roll → List ℕ → ℕ → List ℕ
read_out (got r end) out start = placed_where_fits out start (listing_text r)
read_out (refused n place) out start = out

-- 6 a roll over the listing's limit, before anything of it is read (D-17)
unfoldable pub listing_at : List ℕ → List ℕ → ℕ → Listed
listing_at roll out start = cond (ltb most_listed (length roll)) (listed.Refused NoRoom 0) (read_answer (roll_at roll) out start)

unfoldable pub listing_out : List ℕ → List ℕ → ℕ → List ℕ
listing_out roll out start = cond (ltb most_listed (length roll)) out (read_out (roll_at roll) out start)

pub record ListingTold (roll before : List ℕ) (start : ℕ) (r : Listed) (after : List ℕ) : Type 0 where
  pub answer : r ≡ listing_at roll before start
  pub out : after ≡ listing_out roll before start
