-- A text is said piece by piece, as far as the room goes, into bytes that are lent or into none.
use Rattle.std.specs.Prelude.{ℕ, ◌+◌, ◌≤◌, ◌≡◌, cond, List, [], ◌∷◌, ◌++◌, leb, length, Option, Some, None}
use Rattle.std.proofs.lemmas.List.Edits.{sets}
use Rattle.laws.specs.Placed.{placed_where_fits}
use Rattle.text.specs.Digits.{decimal_of}

-- ---- what was said

-- the place after n more bytes, where they have room
abbrev pub advanced : ℕ → Option ℕ → ℕ → Option ℕ
advanced room (Some at) n = cond (leb (at + n) room) (Some (at + n)) None
advanced room None n = None

-- the text is said after what was said; where the bytes lent have the room, it stands in them
pub record Said (room : ℕ) (before : List ℕ) (w : Option ℕ) (text : List ℕ) (r : Option ℕ) (after : List ℕ) : Type 0 where
  pub answer : r ≡ advanced room w (length text)
  pub holds : room ≤ length before → (at end : ℕ) → w ≡ Some at → r ≡ Some end → after ≡ sets before at text
  pub long : length after ≡ length before

-- what was said stays within the room
abbrev pub Kept : ℕ → Option ℕ → Type 0
Kept room w = advanced room w 0 ≡ w

-- ---- a piece: each stands in the bytes lent where it fits, whatever the room

unfoldable pub piece_out : List ℕ → Option ℕ → List ℕ → List ℕ
piece_out out (Some at) piece = placed_where_fits out at piece
piece_out out None piece = out

pub record PieceTold (room : ℕ) (before : List ℕ) (w : Option ℕ) (piece : List ℕ) (r : Option ℕ) (after : List ℕ) : Type 0 where
  pub said : Said room before w piece r after
  pub out : after ≡ piece_out before w piece

-- ---- a name and a number: two pieces

unfoldable pub named_out : ℕ → List ℕ → Option ℕ → List ℕ → ℕ → List ℕ
named_out room out w name n = piece_out (piece_out out w name) (advanced room w (length name)) (decimal_of n)

pub record NamedTold (room : ℕ) (before : List ℕ) (w : Option ℕ) (name : List ℕ) (n : ℕ) (r : Option ℕ) (after : List ℕ) : Type 0 where
  pub said : Said room before w (name ++ decimal_of n) r after
  pub out : after ≡ named_out room before w name n

-- ---- numbers, each after a mark

unfoldable pub each_after : List ℕ → List ℕ → List ℕ
each_after mark [] = []
each_after mark (n ∷ ns) = (mark ++ decimal_of n) ++ each_after mark ns

unfoldable pub each_from : ℕ → List ℕ → Option ℕ → List ℕ → List ℕ → List ℕ
each_from room out w mark [] = out
each_from room out w mark (n ∷ ns) = each_from room (named_out room out w mark n) (advanced room w (length (mark ++ decimal_of n))) mark ns

-- none where what was said is not within the room
abbrev pub each_out : ℕ → List ℕ → Option ℕ → List ℕ → List ℕ → List ℕ
each_out room out w mark ns = each_from room out (advanced room w 0) mark ns

pub record EachTold (room : ℕ) (before : List ℕ) (w : Option ℕ) (mark ns : List ℕ) (r : Option ℕ) (after : List ℕ) : Type 0 where
  pub said : Said room before w (each_after mark ns) r after
  pub out : after ≡ each_out room before w mark ns
