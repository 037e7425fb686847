-- What a writer of text promises.
use Rattle.std.specs.Prelude.{ℕ, ◌+◌, ◌≡◌, cond, List, leb, length, Option, Some, None}
use Rattle.laws.specs.Placed.{placed_where_fits}

-- the place after n bytes from a place on, where they have room in a length
abbrev pub end_where_fits : ℕ → ℕ → ℕ → Option ℕ
end_where_fits room at n = cond (leb (at + n) room) (Some (at + n)) None

-- the place after the text, or no room (D-41)
abbrev pub answered : List ℕ → ℕ → List ℕ → Option ℕ
answered out at text = end_where_fits (length out) at (length text)

-- with no room nothing is written
pub record WrittenTold (before : List ℕ) (at : ℕ) (text : List ℕ) (r : Option ℕ) (after : List ℕ) : Type 0 where
  pub answer : r ≡ answered before at text
  pub out : after ≡ placed_where_fits before at text
