-- The definition, run on texts.
use mathlib.Core.Path.{◌≡◌, refl}
use mathlib.Core.List.{[], ◌∷◌}
use Rattle.kind.specs.declared.Kind.TheVariants.{Overlap}
use Rattle.laws.specs.Total.{total}
use Rattle.text.specs.Digits.{worth}
use Rattle.importing.specs.Lines.{line_from}
use Rattle.importing.specs.Import.{taken, refused, head_keeps, term_keeps, terms_from, roll_of}
use Rattle.kind.specs.declared.refusals.Refusal.TheVariants.{LineShape, LineNumbers}

-- a roll of one term
taken-one : roll_of (48 ∷ 44 ∷ 48 ∷ 44 ∷ 48 ∷ 44 ∷ 48 ∷ 44 ∷ 48 ∷ 44 ∷ 48 ∷ 44 ∷ 48 ∷ 44 ∷ 49 ∷ 10 ∷ 49 ∷ 44 ∷ 48 ∷ 10 ∷ []) ≡ taken (record { kind = Overlap; orders = 0 ∷ 0 ∷ 0 ∷ 0 ∷ 0 ∷ 0 ∷ []; terms = record { scale = 1; boys = 0; prefactors = [] } ∷ [] })
unfolding roll_of line_from worth head_keeps term_keeps terms_from total
taken-one = refl

-- an empty text
no_text : roll_of ([]) ≡ refused LineShape 1
unfolding roll_of line_from worth head_keeps term_keeps terms_from total
no_text = refl

-- a last line without its line feed
no-feed : roll_of (48 ∷ 44 ∷ 48 ∷ 44 ∷ 48 ∷ 44 ∷ 48 ∷ 44 ∷ 48 ∷ 44 ∷ 48 ∷ 44 ∷ 48 ∷ 44 ∷ 49 ∷ 10 ∷ 49 ∷ 44 ∷ 48 ∷ []) ≡ refused LineShape 2
unfolding roll_of line_from worth head_keeps term_keeps terms_from total
no-feed = refl

-- a leading zero
leading-zero : roll_of (48 ∷ 48 ∷ 44 ∷ 48 ∷ 44 ∷ 48 ∷ 44 ∷ 48 ∷ 44 ∷ 48 ∷ 44 ∷ 48 ∷ 44 ∷ 48 ∷ 44 ∷ 49 ∷ 10 ∷ 49 ∷ 44 ∷ 48 ∷ 10 ∷ []) ≡ refused LineShape 1
unfolding roll_of line_from worth head_keeps term_keeps terms_from total
leading-zero = refl

-- nine numbers
nine-numbers : roll_of (48 ∷ 44 ∷ 48 ∷ 44 ∷ 48 ∷ 44 ∷ 48 ∷ 44 ∷ 48 ∷ 44 ∷ 48 ∷ 44 ∷ 48 ∷ 44 ∷ 48 ∷ 44 ∷ 49 ∷ 10 ∷ 49 ∷ 44 ∷ 48 ∷ 10 ∷ []) ≡ refused LineShape 1
unfolding roll_of line_from worth head_keeps term_keeps terms_from total
nine-numbers = refl

-- a carriage return
carriage-return : roll_of (48 ∷ 44 ∷ 48 ∷ 44 ∷ 48 ∷ 44 ∷ 48 ∷ 44 ∷ 48 ∷ 44 ∷ 48 ∷ 44 ∷ 48 ∷ 44 ∷ 49 ∷ 10 ∷ 49 ∷ 44 ∷ 48 ∷ 13 ∷ 10 ∷ []) ≡ refused LineShape 2
unfolding roll_of line_from worth head_keeps term_keeps terms_from total
carriage-return = refl

-- an empty line
empty-line : roll_of (48 ∷ 44 ∷ 48 ∷ 44 ∷ 48 ∷ 44 ∷ 48 ∷ 44 ∷ 48 ∷ 44 ∷ 48 ∷ 44 ∷ 48 ∷ 44 ∷ 49 ∷ 10 ∷ 10 ∷ 49 ∷ 44 ∷ 48 ∷ 10 ∷ []) ≡ refused LineShape 2
unfolding roll_of line_from worth head_keeps term_keeps terms_from total
empty-line = refl

-- a missing line
missing-line : roll_of (48 ∷ 44 ∷ 48 ∷ 44 ∷ 48 ∷ 44 ∷ 48 ∷ 44 ∷ 48 ∷ 44 ∷ 48 ∷ 44 ∷ 48 ∷ 44 ∷ 50 ∷ 10 ∷ 49 ∷ 44 ∷ 48 ∷ 10 ∷ []) ≡ refused LineNumbers 3
unfolding roll_of line_from worth head_keeps term_keeps terms_from total
missing-line = refl

-- a line too many, of the shape
line-too-many : roll_of (48 ∷ 44 ∷ 48 ∷ 44 ∷ 48 ∷ 44 ∷ 48 ∷ 44 ∷ 48 ∷ 44 ∷ 48 ∷ 44 ∷ 48 ∷ 44 ∷ 49 ∷ 10 ∷ 49 ∷ 44 ∷ 48 ∷ 10 ∷ 57 ∷ 44 ∷ 57 ∷ 10 ∷ []) ≡ refused LineNumbers 3
unfolding roll_of line_from worth head_keeps term_keeps terms_from total
line-too-many = refl

-- a line too many, not of the shape
line-too-many-unshaped : roll_of (48 ∷ 44 ∷ 48 ∷ 44 ∷ 48 ∷ 44 ∷ 48 ∷ 44 ∷ 48 ∷ 44 ∷ 48 ∷ 44 ∷ 48 ∷ 44 ∷ 49 ∷ 10 ∷ 49 ∷ 44 ∷ 48 ∷ 10 ∷ 57 ∷ 10 ∷ []) ≡ refused LineShape 3
unfolding roll_of line_from worth head_keeps term_keeps terms_from total
line-too-many-unshaped = refl

-- a digit string too long for any number
long-digits : roll_of (48 ∷ 44 ∷ 48 ∷ 44 ∷ 48 ∷ 44 ∷ 48 ∷ 44 ∷ 48 ∷ 44 ∷ 48 ∷ 44 ∷ 48 ∷ 44 ∷ 49 ∷ 10 ∷ 49 ∷ 44 ∷ 57 ∷ 57 ∷ 57 ∷ 57 ∷ 57 ∷ 57 ∷ 57 ∷ 57 ∷ 57 ∷ 57 ∷ 57 ∷ 57 ∷ 57 ∷ 57 ∷ 57 ∷ 57 ∷ 57 ∷ 57 ∷ 57 ∷ 57 ∷ 57 ∷ 57 ∷ 57 ∷ 57 ∷ 57 ∷ 57 ∷ 10 ∷ []) ≡ refused LineNumbers 2
unfolding roll_of line_from worth head_keeps term_keeps terms_from total
long-digits = refl

-- an order sum of 7
order-sum : roll_of (48 ∷ 44 ∷ 51 ∷ 44 ∷ 51 ∷ 44 ∷ 49 ∷ 44 ∷ 48 ∷ 44 ∷ 48 ∷ 44 ∷ 48 ∷ 44 ∷ 49 ∷ 10 ∷ 49 ∷ 44 ∷ 48 ∷ 10 ∷ []) ≡ refused LineNumbers 1
unfolding roll_of line_from worth head_keeps term_keeps terms_from total
order-sum = refl

-- more orders than the kind has
orders-too-many : roll_of (48 ∷ 44 ∷ 48 ∷ 44 ∷ 48 ∷ 44 ∷ 48 ∷ 44 ∷ 48 ∷ 44 ∷ 48 ∷ 44 ∷ 48 ∷ 44 ∷ 49 ∷ 44 ∷ 48 ∷ 44 ∷ 48 ∷ 44 ∷ 48 ∷ 10 ∷ 49 ∷ 44 ∷ 48 ∷ 10 ∷ []) ≡ refused LineNumbers 1
unfolding roll_of line_from worth head_keeps term_keeps terms_from total
orders-too-many = refl

-- a prefactor more than L
prefactors-too-many : roll_of (48 ∷ 44 ∷ 48 ∷ 44 ∷ 48 ∷ 44 ∷ 48 ∷ 44 ∷ 48 ∷ 44 ∷ 48 ∷ 44 ∷ 48 ∷ 44 ∷ 49 ∷ 10 ∷ 49 ∷ 44 ∷ 48 ∷ 44 ∷ 48 ∷ 10 ∷ []) ≡ refused LineNumbers 2
unfolding roll_of line_from worth head_keeps term_keeps terms_from total
prefactors-too-many = refl

-- a kind that has no name
unknown-kind : roll_of (53 ∷ 44 ∷ 48 ∷ 44 ∷ 48 ∷ 44 ∷ 48 ∷ 44 ∷ 48 ∷ 44 ∷ 48 ∷ 44 ∷ 48 ∷ 44 ∷ 49 ∷ 10 ∷ 49 ∷ 44 ∷ 48 ∷ 10 ∷ []) ≡ refused LineNumbers 1
unfolding roll_of line_from worth head_keeps term_keeps terms_from total
unknown-kind = refl

-- an empty number
empty-number : roll_of (48 ∷ 44 ∷ 44 ∷ 48 ∷ 44 ∷ 48 ∷ 44 ∷ 48 ∷ 44 ∷ 48 ∷ 44 ∷ 48 ∷ 44 ∷ 49 ∷ 10 ∷ 49 ∷ 44 ∷ 48 ∷ 10 ∷ []) ≡ refused LineShape 1
unfolding roll_of line_from worth head_keeps term_keeps terms_from total
empty-number = refl

-- numbers that are wrong in a line that is not of the shape
shape-first : roll_of (48 ∷ 44 ∷ 48 ∷ 44 ∷ 48 ∷ 44 ∷ 48 ∷ 44 ∷ 48 ∷ 44 ∷ 48 ∷ 44 ∷ 48 ∷ 44 ∷ 49 ∷ 10 ∷ 48 ∷ 44 ∷ 57 ∷ 57 ∷ 44 ∷ 32 ∷ 49 ∷ 10 ∷ []) ≡ refused LineShape 2
unfolding roll_of line_from worth head_keeps term_keeps terms_from total
shape-first = refl
