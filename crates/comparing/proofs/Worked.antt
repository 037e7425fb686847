-- Comparisons worked out by the definition, letter by letter: 02's example with its sides turned round too, each line of the head, and a refusal on each side.
use Prim.Native.Nat.{ℕ}
use mathlib.Core.Path.{◌≡◌, refl}
use mathlib.Core.List.{List, [], ◌∷◌, ◌++◌}
use Rattle.kind.specs.declared.Kind.{Kind}
use Rattle.kind.specs.declared.Kind.TheVariants.{Overlap, Kinetic, Moment}
use Rattle.term.specs.Terms.{Term, same_term}
use Rattle.text.specs.Digits.{glyph, decimal_of}
use Rattle.roll.specs.Reading.{Roll, got, refused}
use Rattle.listing.specs.Text.{after_blanks}
use Rattle.laws.specs.Same.{same_numbers}
use Rattle.comparing.specs.Text.{differences, count_line, pair_line, orders_line, head_text, reading_text, numbered_text, one_line, line_text, lines_text, compare_text, refused_text, said_of}
use Rattle.kind.specs.declared.refusals.Refusal.TheVariants.{BadRoll, CutRoll}

abbrev term : List ℕ → Term
term ps = record { scale = 1; boys = 0; prefactors = ps }

abbrev roll_of : Kind → List ℕ → List Term → Roll
roll_of k orders ts = record { kind = k; orders = orders; terms = ts }

-- overlap Ax1 Bx1, and what another board may have made of overlap Ax1 Bx2
abbrev one : Roll
one = roll_of Overlap (1 ∷ 0 ∷ 0 ∷ 1 ∷ 0 ∷ 0 ∷ []) (term (0 ∷ 1 ∷ []) ∷ term (7 ∷ []) ∷ [])

abbrev other : Roll
other = roll_of Overlap (1 ∷ 0 ∷ 0 ∷ 2 ∷ 0 ∷ 0 ∷ []) (term (0 ∷ 1 ∷ []) ∷ term (6 ∷ []) ∷ term (0 ∷ 6 ∷ []) ∷ [])

-- s,s of three kinds, of which the last has nine orders
abbrev plain : Kind → Roll
plain k = roll_of k (0 ∷ 0 ∷ 0 ∷ 0 ∷ 0 ∷ 0 ∷ []) (term [] ∷ [])

abbrev moment : Roll
moment = roll_of Moment (0 ∷ 0 ∷ 0 ∷ 0 ∷ 0 ∷ 0 ∷ 0 ∷ 0 ∷ 0 ∷ []) (term [] ∷ [])

-- `2 differ`, `orders 1 0 0 1 0 0 / 1 0 0 2 0 0`, `terms 2 / 3`, `2: 1 0: 7 / 1 0: 6`, `3: right 1 0: 0 6`
abbrev pub example : List ℕ
example =
    (50 ∷ 32 ∷ 100 ∷ 105 ∷ 102 ∷ 102 ∷ 101 ∷ 114 ∷ 10 ∷ [])
    ++ (111 ∷ 114 ∷ 100 ∷ 101 ∷ 114 ∷ 115 ∷ 32 ∷ 49 ∷ 32 ∷ 48 ∷ 32 ∷ 48 ∷ 32 ∷ 49 ∷ 32 ∷ 48 ∷ 32 ∷ 48 ∷ 32 ∷ 47 ∷ 32 ∷ 49 ∷ 32 ∷ 48 ∷ 32 ∷ 48 ∷ 32 ∷ 50 ∷ 32 ∷ 48 ∷ 32 ∷ 48 ∷ 10 ∷ [])
    ++ (116 ∷ 101 ∷ 114 ∷ 109 ∷ 115 ∷ 32 ∷ 50 ∷ 32 ∷ 47 ∷ 32 ∷ 51 ∷ 10 ∷ [])
    ++ (50 ∷ 58 ∷ 32 ∷ 49 ∷ 32 ∷ 48 ∷ 58 ∷ 32 ∷ 55 ∷ 32 ∷ 47 ∷ 32 ∷ 49 ∷ 32 ∷ 48 ∷ 58 ∷ 32 ∷ 54 ∷ 10 ∷ [])
    ++ (51 ∷ 58 ∷ 32 ∷ 114 ∷ 105 ∷ 103 ∷ 104 ∷ 116 ∷ 32 ∷ 49 ∷ 32 ∷ 48 ∷ 58 ∷ 32 ∷ 48 ∷ 32 ∷ 54 ∷ 10 ∷ [])

-- the same with the sides turned round
abbrev pub turned : List ℕ
turned =
    (50 ∷ 32 ∷ 100 ∷ 105 ∷ 102 ∷ 102 ∷ 101 ∷ 114 ∷ 10 ∷ [])
    ++ (111 ∷ 114 ∷ 100 ∷ 101 ∷ 114 ∷ 115 ∷ 32 ∷ 49 ∷ 32 ∷ 48 ∷ 32 ∷ 48 ∷ 32 ∷ 50 ∷ 32 ∷ 48 ∷ 32 ∷ 48 ∷ 32 ∷ 47 ∷ 32 ∷ 49 ∷ 32 ∷ 48 ∷ 32 ∷ 48 ∷ 32 ∷ 49 ∷ 32 ∷ 48 ∷ 32 ∷ 48 ∷ 10 ∷ [])
    ++ (116 ∷ 101 ∷ 114 ∷ 109 ∷ 115 ∷ 32 ∷ 51 ∷ 32 ∷ 47 ∷ 32 ∷ 50 ∷ 10 ∷ [])
    ++ (50 ∷ 58 ∷ 32 ∷ 49 ∷ 32 ∷ 48 ∷ 58 ∷ 32 ∷ 54 ∷ 32 ∷ 47 ∷ 32 ∷ 49 ∷ 32 ∷ 48 ∷ 58 ∷ 32 ∷ 55 ∷ 10 ∷ [])
    ++ (51 ∷ 58 ∷ 32 ∷ 108 ∷ 101 ∷ 102 ∷ 116 ∷ 32 ∷ 49 ∷ 32 ∷ 48 ∷ 58 ∷ 32 ∷ 48 ∷ 32 ∷ 54 ∷ 10 ∷ [])

-- `0 differ`, `kind 0 / 1`
abbrev pub kinds : List ℕ
kinds =
    (48 ∷ 32 ∷ 100 ∷ 105 ∷ 102 ∷ 102 ∷ 101 ∷ 114 ∷ 10 ∷ [])
    ++ (107 ∷ 105 ∷ 110 ∷ 100 ∷ 32 ∷ 48 ∷ 32 ∷ 47 ∷ 32 ∷ 49 ∷ 10 ∷ [])

-- `0 differ`, `kind 0 / 3`, `orders 0 0 0 0 0 0 / 0 0 0 0 0 0 0 0 0`
abbrev pub counts : List ℕ
counts =
    (48 ∷ 32 ∷ 100 ∷ 105 ∷ 102 ∷ 102 ∷ 101 ∷ 114 ∷ 10 ∷ [])
    ++ (107 ∷ 105 ∷ 110 ∷ 100 ∷ 32 ∷ 48 ∷ 32 ∷ 47 ∷ 32 ∷ 51 ∷ 10 ∷ [])
    ++ (111 ∷ 114 ∷ 100 ∷ 101 ∷ 114 ∷ 115 ∷ 32 ∷ 48 ∷ 32 ∷ 48 ∷ 32 ∷ 48 ∷ 32 ∷ 48 ∷ 32 ∷ 48 ∷ 32 ∷ 48 ∷ 32 ∷ 47 ∷ 32 ∷ 48 ∷ 32 ∷ 48 ∷ 32 ∷ 48 ∷ 32 ∷ 48 ∷ 32 ∷ 48 ∷ 32 ∷ 48 ∷ 32 ∷ 48 ∷ 32 ∷ 48 ∷ 32 ∷ 48 ∷ 10 ∷ [])

-- `refused 7 at 12 left`, and `refused 14 at 0 right`
abbrev pub lefts : List ℕ
lefts =
    (114 ∷ 101 ∷ 102 ∷ 117 ∷ 115 ∷ 101 ∷ 100 ∷ 32 ∷ 55 ∷ 32 ∷ 97 ∷ 116 ∷ 32 ∷ 49 ∷ 50 ∷ 32 ∷ 108 ∷ 101 ∷ 102 ∷ 116 ∷ 10 ∷ [])

abbrev pub rights : List ℕ
rights =
    (114 ∷ 101 ∷ 102 ∷ 117 ∷ 115 ∷ 101 ∷ 100 ∷ 32 ∷ 49 ∷ 52 ∷ 32 ∷ 97 ∷ 116 ∷ 32 ∷ 48 ∷ 32 ∷ 114 ∷ 105 ∷ 103 ∷ 104 ∷ 116 ∷ 10 ∷ [])

pub record Cases : Type 0 where
  pub of-example : compare_text one other ≡ example
  pub of-turned : compare_text other one ≡ turned
  pub of-kinds : compare_text (plain Overlap) (plain Kinetic) ≡ kinds
  pub of-counts : compare_text (plain Overlap) moment ≡ counts
  pub of_left : said_of (refused BadRoll 12) (refused CutRoll 0) ≡ lefts
  pub of_right : said_of (got one 17) (refused CutRoll 0) ≡ rights

pub worked : Cases
unfolding same_numbers same_term differences count_line pair_line orders_line head_text reading_text numbered_text one_line line_text lines_text compare_text refused_text after_blanks glyph decimal_of
worked = record { of-example = refl; of-turned = refl; of-kinds = refl; of-counts = refl; of_left = refl; of_right = refl }
