-- 02, Q-14: the line of a refusal of the import, in ASCII.
use Rattle.std.specs.Prelude.{ℕ, Bool, cond, ◌||◌, List, [], ◌∷◌, ◌++◌, eqb}
use Rattle.text.specs.Digits.{decimal_of}
use Rattle.listing.specs.Text.{feed, refused_word}

-- ` line `
abbrev pub line_word : List ℕ
line_word = 32 ∷ 108 ∷ 105 ∷ 110 ∷ 101 ∷ 32 ∷ []

-- 21 with its line number, 22 with its line number
unfoldable pub carries_line : ℕ → Bool
carries_line refusal = eqb refusal 21 || eqb refusal 22

abbrev pub line_text : ℕ → ℕ → List ℕ
line_text refusal line = cond (carries_line refusal) (line_word ++ decimal_of line) []

-- refused 21 line N, refused 22 line N; refused N for every other
unfoldable pub refusal_text : ℕ → ℕ → List ℕ
refusal_text refusal line = (refused_word ++ decimal_of refusal) ++ (line_text refusal line ++ feed)
