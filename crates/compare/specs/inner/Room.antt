-- Inside the crate: the buffer that a piece is written to holds the piece.
use Rattle.std.specs.Prelude.{ℕ, ◌≤◌, ◌≡◌, List, length, take}

-- the first n bytes are the text
pub record Holds (out : List ℕ) (n : ℕ) (text : List ℕ) : Type 0 where
  pub inside : n ≤ length out
  pub is : take n out ≡ text
