-- Inside the crate: the buffer that a text is written to, and that it holds the text.
use Rattle.std.specs.Prelude.{ℕ, ◌*◌, ◌≤◌, ◌≡◌, List, length, take}
use Rattle.kind.specs.Limits.{most_listed}

-- the bytes lent to a text: no listing has more
abbrev pub text_room : ℕ
text_room = 5 * most_listed

-- the first n bytes are the text
pub record Holds (out : List ℕ) (n : ℕ) (text : List ℕ) : Type 0 where
  pub inside : n ≤ length out
  pub is : take n out ≡ text
