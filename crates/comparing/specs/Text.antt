-- 02, Q-4: where two rolls differ, and the text that says so, in ASCII.
use Rattle.std.specs.Prelude.{ℕ, ◌+◌, Bool, cond, not, List, [], ◌∷◌, ◌++◌, eqb, length}
use Rattle.laws.specs.Same.{same_numbers}
use Rattle.kind.specs.Kinds.{number_of}
use Rattle.kind.specs.declared.refusals.Refusal.{Refusal}
use Rattle.kind.specs.Refusals.{refusal_number}
use Rattle.term.specs.Terms.{Term, same_term}
use Rattle.text.specs.Digits.{decimal_of}
use Rattle.roll.specs.Reading.{Reading, got, refused, Roll}
use Rattle.comparing.specs.declared.sides.Side.{Side}
use Rattle.comparing.specs.declared.sides.Side.TheVariants as side
use Rattle.listing.specs.Text.{blank, colon, feed, kind_word, refused_word, at_word, after_blanks}

-- ---- where two rolls differ

-- a position whose terms differ, or which exists on one side only, with its number
pub data Difference : Type 0 where
  both : ℕ → Term → Term → Difference
  left : ℕ → Term → Difference
  right : ℕ → Term → Difference

-- all such positions of two lists of terms, which are numbered from a number on
unfoldable pub differences : ℕ → List Term → List Term → List Difference
differences number [] [] = []
differences number (l ∷ ls) [] = left number l ∷ differences (number + 1) ls []
differences number [] (r ∷ rs) = right number r ∷ differences (number + 1) [] rs
differences number (l ∷ ls) (r ∷ rs) =
    cond (same_term l r) (differences (number + 1) ls rs)
    (both number l r ∷ differences (number + 1) ls rs)

-- ---- words

-- ` differ`
abbrev pub differ_word : List ℕ
differ_word = 32 ∷ 100 ∷ 105 ∷ 102 ∷ 102 ∷ 101 ∷ 114 ∷ []

-- `orders`
abbrev pub orders_word : List ℕ
orders_word = 111 ∷ 114 ∷ 100 ∷ 101 ∷ 114 ∷ 115 ∷ []

-- `terms `
abbrev pub terms_word : List ℕ
terms_word = 116 ∷ 101 ∷ 114 ∷ 109 ∷ 115 ∷ 32 ∷ []

-- ` /`, and ` / `
abbrev pub bar : List ℕ
bar = 32 ∷ 47 ∷ []

abbrev pub bar_blank : List ℕ
bar_blank = 32 ∷ 47 ∷ 32 ∷ []

-- `: `, `: left ` and `: right `
abbrev pub both_word : List ℕ
both_word = 58 ∷ 32 ∷ []

abbrev pub left_word : List ℕ
left_word = 58 ∷ 32 ∷ 108 ∷ 101 ∷ 102 ∷ 116 ∷ 32 ∷ []

abbrev pub right_word : List ℕ
right_word = 58 ∷ 32 ∷ 114 ∷ 105 ∷ 103 ∷ 104 ∷ 116 ∷ 32 ∷ []

-- ` left` and ` right`, each with its line feed
abbrev pub left_end : List ℕ
left_end = 32 ∷ 108 ∷ 101 ∷ 102 ∷ 116 ∷ 10 ∷ []

abbrev pub right_end : List ℕ
right_end = 32 ∷ 114 ∷ 105 ∷ 103 ∷ 104 ∷ 116 ∷ 10 ∷ []

-- ---- the head: 2 differ

unfoldable pub count_line : ℕ → List ℕ
count_line n = decimal_of n ++ (differ_word ++ feed)

-- a name and both numbers, only where they differ: terms 2 / 3
unfoldable pub pair_line : Bool → List ℕ → ℕ → ℕ → List ℕ
pair_line on name l r = cond on ((name ++ decimal_of l) ++ ((bar_blank ++ decimal_of r) ++ feed)) []

-- orders 1 0 0 1 0 0 / 1 0 0 2 0 0
unfoldable pub orders_line : Bool → List ℕ → List ℕ → List ℕ
orders_line on l r = cond on ((orders_word ++ after_blanks l) ++ ((bar ++ after_blanks r) ++ feed)) []

abbrev pub kinds_differ : Roll → Roll → Bool
kinds_differ l r = not (eqb (number_of l.kind) (number_of r.kind))

-- as lists: of another number of them too (D-102)
abbrev pub orders_differ : Roll → Roll → Bool
orders_differ l r = not (same_numbers l.orders r.orders)

abbrev pub terms_differ : Roll → Roll → Bool
terms_differ l r = not (eqb (length l.terms) (length r.terms))

-- how many positions differ; then kind, orders and term count, each only where they differ
unfoldable pub head_text : Roll → Roll → List ℕ
head_text l r =
    (count_line (length (differences 1 l.terms r.terms)) ++ pair_line (kinds_differ l r) kind_word (number_of l.kind) (number_of r.kind))
    ++ (orders_line (orders_differ l r) l.orders r.orders
    ++ pair_line (terms_differ l r) terms_word (length l.terms) (length r.terms))

-- ---- the lines

-- a term as the listing writes it: 1 0: 7
unfoldable pub reading_text : Term → List ℕ
reading_text t = decimal_of t.scale ++ ((blank ++ decimal_of t.boys) ++ (colon ++ after_blanks t.prefactors))

-- a position's number, a word and a term
unfoldable pub numbered_text : ℕ → List ℕ → Term → List ℕ
numbered_text number word t = decimal_of number ++ (word ++ reading_text t)

-- a term of one side alone: 3: right 1 0: 0 6
unfoldable pub one_line : ℕ → List ℕ → Term → List ℕ
one_line number side t = numbered_text number side t ++ feed

-- and terms that differ: 2: 1 0: 7 / 1 0: 6
unfoldable pub line_text : Difference → List ℕ
line_text (both number l r) = numbered_text number both_word l ++ (bar_blank ++ (reading_text r ++ feed))
line_text (left number l) = one_line number left_word l
line_text (right number r) = one_line number right_word r

unfoldable pub lines_text : List Difference → List ℕ
lines_text [] = []
lines_text (d ∷ ds) = line_text d ++ lines_text ds

-- ---- the whole

unfoldable pub compare_text : Roll → Roll → List ℕ
compare_text l r = head_text l r ++ lines_text (differences 1 l.terms r.terms)

-- the side of a refusal
abbrev pub side_end : Side → List ℕ
side_end side.Left = left_end
side_end side.Right = right_end

-- refused 7 at 12 left
unfoldable pub refused_text : Refusal → ℕ → Side → List ℕ
refused_text refusal place at = (refused_word ++ decimal_of (refusal_number refusal)) ++ ((at_word ++ decimal_of place) ++ side_end at)

-- a roll that cannot be read is refused with its side and place, the left one first; nothing else is said
abbrev pub said_of : Reading Roll → Reading Roll → List ℕ
said_of (refused r place) other = refused_text r place side.Left
said_of (got l end) (refused r place) = refused_text r place side.Right
said_of (got l end) (got r last) = compare_text l r
