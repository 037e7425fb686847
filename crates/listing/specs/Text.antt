-- 01, "The roll": the text of a roll's listing, and the line of a refusal, in ASCII.
use Rattle.std.specs.Prelude.{ℕ, ◌+◌, Bool, cond, ◌||◌, List, [], ◌∷◌, ◌++◌, eqb, length}
use Rattle.kind.specs.declared.Kind.{Kind}
use Rattle.kind.specs.Kinds.{number_of}
use Rattle.term.specs.Terms.{Term}
use Rattle.text.specs.Digits.{decimal_of}
use Rattle.roll.specs.Reading.{Roll}

-- a blank, a colon, a line feed
abbrev pub blank : List ℕ
blank = 32 ∷ []

abbrev pub colon : List ℕ
colon = 58 ∷ []

abbrev pub feed : List ℕ
feed = 10 ∷ []

-- `kind `
abbrev pub kind_word : List ℕ
kind_word = 107 ∷ 105 ∷ 110 ∷ 100 ∷ 32 ∷ []

-- ` orders`
abbrev pub orders_word : List ℕ
orders_word = 32 ∷ 111 ∷ 114 ∷ 100 ∷ 101 ∷ 114 ∷ 115 ∷ []

-- ` terms `
abbrev pub terms_word : List ℕ
terms_word = 32 ∷ 116 ∷ 101 ∷ 114 ∷ 109 ∷ 115 ∷ 32 ∷ []

-- `refused `
abbrev pub refused_word : List ℕ
refused_word = 114 ∷ 101 ∷ 102 ∷ 117 ∷ 115 ∷ 101 ∷ 100 ∷ 32 ∷ []

-- ` at `
abbrev pub at_word : List ℕ
at_word = 32 ∷ 97 ∷ 116 ∷ 32 ∷ []

-- numbers, each after a blank
unfoldable pub after_blanks : List ℕ → List ℕ
after_blanks [] = []
after_blanks (n ∷ ns) = (blank ++ decimal_of n) ++ after_blanks ns

-- kind 0 orders 1 0 0 1 0 0
unfoldable pub kind_text : Kind → List ℕ → List ℕ
kind_text k orders = (kind_word ++ decimal_of (number_of k)) ++ (orders_word ++ after_blanks orders)

-- the first line: kind 0 orders 1 0 0 1 0 0 terms 2; every line ends in a line feed (D-16)
unfoldable pub head_line : Kind → List ℕ → ℕ → List ℕ
head_line k orders terms = kind_text k orders ++ ((terms_word ++ decimal_of terms) ++ feed)

-- a term is its number, scale, Boys order, colon
unfoldable pub term_numbers : ℕ → ℕ → ℕ → List ℕ
term_numbers number scale boys = decimal_of number ++ ((blank ++ decimal_of scale) ++ ((blank ++ decimal_of boys) ++ colon))

-- then prefactors each after a blank: 1 1 0: 0 1 (D-15)
unfoldable pub term_line : ℕ → Term → List ℕ
term_line number t = term_numbers number t.scale t.boys ++ (after_blanks t.prefactors ++ feed)

-- terms from a number on
unfoldable pub term_lines : ℕ → List Term → List ℕ
term_lines number [] = []
term_lines number (t ∷ ts) = term_line number t ++ term_lines (number + 1) ts

-- the first line, then a line for each term, numbered from 1
unfoldable pub listing_text : Roll → List ℕ
listing_text r = head_line r.kind r.orders (length r.terms) ++ term_lines 1 r.terms

-- refusals 7 and 14 carry the place (02, Q-5; D-75)
unfoldable pub carries_place : ℕ → Bool
carries_place refusal = eqb refusal 7 || eqb refusal 14

abbrev pub place_text : ℕ → ℕ → List ℕ
place_text refusal place = cond (carries_place refusal) (at_word ++ decimal_of place) []

-- refused 7 at P, refused 14 at P; refused N for every other
unfoldable pub refusal_text : ℕ → ℕ → List ℕ
refusal_text refusal place = (refused_word ++ decimal_of refusal) ++ (place_text refusal place ++ feed)
