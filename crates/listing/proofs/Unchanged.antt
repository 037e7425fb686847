-- 01: a refusal changes no lent byte.
use Prim.Native.Nat.{ℕ, ◌+◌, ◌<◌}
use mathlib.Core.Path.{◌≡◌, refl, ◌∙◌}
use mathlib.Core.Bool.{Bool, true, false, cond}
use mathlib.Core.List.{List}
use native.Mathlib.Omega.{arith}
use borrow.Author.Tests.{le-ltb, leb-true}
use lib.Dec.{ltb, leb}
use lib.ListN.{length}
use Rattle.laws.specs.Placed.{placed, placed_where_fits}
use Rattle.kind.specs.Limits.{most_listed}
use Rattle.roll.specs.Reading.{Reading, got, refused, Roll, roll_at}
use Rattle.roll.specs.Header.{refusal_of}
use Rattle.listing.specs.Listed.{Listed}
use Rattle.listing.specs.Text.{listing_text, refusal_text}
use Rattle.listing.specs.Answers.{text_at, TextTold, read_answer, read_out, listing_at, listing_out, ListingTold}

text-kept : (text out : List ℕ) (start : ℕ) (b : Bool) → leb (start + length text) (length out) ≡ b → 0 < refusal_of (text_at text out start) → cond b (placed out start text) out ≡ out
unfolding text_at
text-kept text out start true room some =
    let fits = leb-true (start + length text) (length out) room in
    let inside = le-ltb (length out) start (omega arith) in
    let whole = le-ltb (length out) (start + length text) fits in
    absurd (omega (arith, rw (inside, whole) at some))
text-kept text out start false full some = refl

pub placed-kept : (text out : List ℕ) (start : ℕ) → 0 < refusal_of (text_at text out start) → placed_where_fits out start text ≡ out
placed-kept text out start some = text-kept text out start (leb (start + length text) (length out)) refl some

read_kept : (x : Reading Roll) (out : List ℕ) (start : ℕ) → 0 < refusal_of (read_answer x out start) → read_out x out start ≡ out
read_kept (got r end) out start some = placed-kept (listing_text r) out start some
read_kept (refused n place) out start some = refl

pub refused-line-kept : (refusal place : ℕ) (before : List ℕ) (start : ℕ) (r : Listed) (after : List ℕ) → TextTold (refusal_text refusal place) before start r after → 0 < refusal_of r → after ≡ before
refused-line-kept refusal place before start r after told some =
    told.out ∙ placed-kept (refusal_text refusal place) before start (rw told.answer at some)

pub refused-kept : (roll before : List ℕ) (start : ℕ) (r : Listed) (after : List ℕ) → ListingTold roll before start r after → 0 < refusal_of r → after ≡ before
unfolding listing_at listing_out
refused-kept roll before start r after told some = told.out ∙ by (ltb most_listed (length roll)) refl (rw told.answer at some)
  where
    by : (b : Bool) → ltb most_listed (length roll) ≡ b → 0 < refusal_of (listing_at roll before start) → listing_out roll before start ≡ before
    by true over some = rw over
    by false short some = rw short (read_kept (roll_at roll) before start (rw short at some))
