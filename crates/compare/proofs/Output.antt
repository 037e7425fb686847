-- What a comparison answers, what each of its steps has met, and what is refused are pieces that the buffer has room for.
use Prim.Native.Nat.{ℕ, ◌+◌, ◌≤◌}
use native.Mathlib.Omega.{arith}
use mathlib.Core.Path.{◌≡◌, ap, ◌∙◌}
use mathlib.Core.Bool.{false}
use mathlib.Core.List.{List}
use borrow.Author.Tests.{le-ltb, le-leb}
use lib.Dec.{ltb}
use lib.ListN.{length, drop, length-append}
use lib.Seq.{take-append_seam}
use Rattle.std.specs.Result.{result_unwrap_or}
use Rattle.laws.specs.Placed.{placed_where_fits}
use Rattle.listing.specs.Listed.{Listed, Text}
use Rattle.listing.specs.Answers.{text_at, TextTold}
use Rattle.comparing.specs.Answers.{piece_room}
use Rattle.compare.specs.inner.Room.{Holds}

-- a text that has room from the front on
at_front : (text out : List ℕ) → length text ≤ length out → (text_at text out 0 ≡ Text (length text)) × Holds (placed_where_fits out 0 text) (length text) text
unfolding text_at
at_front text out room =
    let fits : ltb (length out) (0 + length text) ≡ false = le-ltb (length out) (0 + length text) (omega arith) in (
      rw (le-ltb (length out) 0 (omega arith), fits),
      rw (le-leb (0 + length text) (length out) (omega arith)) (record { inside = omega (arith, length-append text (drop (0 + length text) out)); is = take-append_seam text (drop (0 + length text) out) }),
    )

-- a piece has room in the buffer, so it is told
pub piece-text : (text before after : List ℕ) (n : ℕ) (x : Listed) → piece_room ≤ length before → length text ≤ piece_room → TextTold text before 0 x after → n ≡ result_unwrap_or x 0 → Holds after n text
piece-text text before after n x room short told is =
    let f = at_front text before (omega arith) in
    let size : n ≡ length text = is ∙ ap (λ (x : Listed). result_unwrap_or x 0) (told.answer ∙ f.0) in
    rw (told.out, size) f.1
