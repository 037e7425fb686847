-- Bytes at a place of a lent buffer.
use Rattle.std.specs.Prelude.{ℕ, ◌+◌, Bool, cond, List, ◌++◌, leb, length, take, drop}

-- the bytes stand from a place on, and everything else is as it was
abbrev pub placed : List ℕ → ℕ → List ℕ → List ℕ
placed out at bytes = take at out ++ (bytes ++ drop (at + length bytes) out)

-- n bytes have room from a place on
abbrev pub room_for : List ℕ → ℕ → ℕ → Bool
room_for out at n = leb (at + n) (length out)

-- bytes that have room stand at their place; with no room all is as it was
abbrev pub placed_where_fits : List ℕ → ℕ → List ℕ → List ℕ
placed_where_fits out at bytes = cond (room_for out at (length bytes)) (placed out at bytes) out
