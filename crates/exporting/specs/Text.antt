-- 02, Q-14: a roll as lines of numbers, in ASCII.
use Rattle.std.specs.Prelude.{ℕ, List, [], ◌∷◌, ◌++◌, length}
use Rattle.kind.specs.declared.Kind.{Kind}
use Rattle.kind.specs.Kinds.{number_of}
use Rattle.term.specs.Terms.{Term}
use Rattle.text.specs.Digits.{decimal_of}
use Rattle.roll.specs.Reading.{Roll}
use Rattle.listing.specs.Text.{feed}

abbrev pub comma : List ℕ
comma = 44 ∷ []

-- numbers, each after a comma
unfoldable pub after_commas : List ℕ → List ℕ
after_commas [] = []
after_commas (n ∷ ns) = (comma ++ decimal_of n) ++ after_commas ns

-- a line: numbers with commas between them, and a line feed
unfoldable pub line_of : List ℕ → List ℕ
line_of [] = feed
line_of (n ∷ ns) = decimal_of n ++ (after_commas ns ++ feed)

-- first `kind,orders..,count`
abbrev pub head_numbers : Kind → List ℕ → ℕ → List ℕ
head_numbers k orders count = number_of k ∷ (orders ++ (count ∷ []))

-- then `scale,order,prefactors..`
abbrev pub term_numbers : Term → List ℕ
term_numbers t = t.scale ∷ t.boys ∷ t.prefactors

unfoldable pub term_lines : List Term → List ℕ
term_lines [] = []
term_lines (t ∷ ts) = line_of (term_numbers t) ++ term_lines ts

unfoldable pub text_of : Roll → List ℕ
text_of r = line_of (head_numbers r.kind r.orders (length r.terms)) ++ term_lines r.terms
