-- 02, Q-14: a line of the shape: decimal numbers separated by single commas, ended by a line feed.
use Rattle.std.specs.Prelude.{ℕ, Bool, true, false, cond, List, [], ◌∷◌, ◌++◌, ltb, eqb}
use Rattle.text.specs.Digits.{worth, value_from}

-- whether digits are a number: one or more, without leading zeros; `0` alone is one
abbrev pub is_number : List ℕ → Bool
is_number [] = false
is_number (d ∷ []) = true
is_number (d ∷ e ∷ ds) = ltb 48 d

-- a line's numbers, of any size, and the text after its line feed; or no line of the shape
pub data Line : Type 0 where
  line : List ℕ → List ℕ → Line
  broken : Line

-- a number in front of a line's
abbrev pub before : ℕ → Line → Line
before n (line ns rest) = line (n ∷ ns) rest
before n broken = broken

-- the byte after a number's digits: a line feed ends the line, after a comma it goes on
abbrev pub after : List ℕ → ℕ → List ℕ → Line → Line
after run b rest more =
    cond (is_number run)
    (cond (eqb b 10) (line (value_from 10 0 run ∷ []) rest) (cond (eqb b 44) (before (value_from 10 0 run) more) broken))
    broken

-- the line that a text begins with, where `run` are the digits of a number so far; a text that ends before the line feed has none
unfoldable pub line_from : List ℕ → List ℕ → Line
line_from run [] = broken
line_from run (b ∷ s) =
    elim (ltb (worth b) 10) [
      | true ↦ line_from (run ++ (b ∷ [])) s
      | false ↦ after run b s (line_from [] s)
    ]

-- the first line of a text
abbrev pub line_on : List ℕ → Line
line_on s = line_from [] s
