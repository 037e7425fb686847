-- An export worked out by the definition, letter by letter: 01's roll of overlap Ax1 Bx1.
use mathlib.Core.Path.{◌≡◌, refl}
use mathlib.Core.List.{[], ◌∷◌, ◌++◌}
use Rattle.kind.specs.declared.Kind.TheVariants.{Overlap}
use Rattle.text.specs.Digits.{glyph, decimal_of}
use Rattle.roll.specs.Reading.{Roll}
use Rattle.exporting.specs.Text.{after_commas, line_of, term_lines, text_of}

abbrev roll : Roll
roll =
    record {
      kind = Overlap;
      orders = 1 ∷ 0 ∷ 0 ∷ 1 ∷ 0 ∷ 0 ∷ [];
      terms = record { scale = 1; boys = 0; prefactors = 0 ∷ 1 ∷ [] } ∷ record { scale = 1; boys = 0; prefactors = 7 ∷ [] } ∷ [];
    }

-- `0,1,0,0,1,0,0,2`, `1,0,0,1`, `1,0,7`
pub worked : text_of roll ≡ (48 ∷ 44 ∷ 49 ∷ 44 ∷ 48 ∷ 44 ∷ 48 ∷ 44 ∷ 49 ∷ 44 ∷ 48 ∷ 44 ∷ 48 ∷ 44 ∷ 50 ∷ 10 ∷ []) ++ (49 ∷ 44 ∷ 48 ∷ 44 ∷ 48 ∷ 44 ∷ 49 ∷ 10 ∷ []) ++ (49 ∷ 44 ∷ 48 ∷ 44 ∷ 55 ∷ 10 ∷ [])
unfolding after_commas line_of term_lines text_of decimal_of glyph
worked = refl
