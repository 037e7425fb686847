-- Inside the crate: lines and numbers by their places in the text, as the code goes through them. What is promised is said by Lines and Import;
-- proofs/Standing and what rests on it show that places say the same.
use Rattle.std.specs.Prelude.{ℕ, zero, suc, ◌+◌, ◌-◌, min, ◌≡◌, cond, ◌||◌, List, [], ◌++◌, ltb, leb, eqb, length, drop}
use Rattle.std.proofs.lemmas.List.Edits.{sets}
use Rattle.kind.specs.Limits.{most_order, most_terms, most_scale}
use Rattle.kind.specs.Kinds.{kind_of, number_of, orders_of, table_of, most_prefactors}
use Rattle.kind.specs.declared.Kind.{Kind}
use Rattle.kind.specs.declared.Kind.TheVariants.{Coulomb}
use Rattle.number.specs.Numbers.{bytes_of, length_of}
use Rattle.text.specs.Parsed.{Parsed}
use Rattle.text.specs.Parsed as parsed
use Rattle.text.specs.Reading.{decimal_at}
use Rattle.roll.specs.Bytes.{roll_bytes}
use Rattle.roll.specs.Reading.{most_boys, sum_after, Roll}
use Rattle.importing.specs.inner.Shape.{Shape}
use Rattle.importing.specs.inner.Shape as shape
use Rattle.importing.specs.inner.Numeral.{Numeral}
use Rattle.importing.specs.inner.Numeral as numeral
use Rattle.importing.specs.inner.FirstLine.{FirstLine}
use Rattle.importing.specs.inner.FirstLine as head
use Rattle.importing.specs.inner.Size.{Size}
use Rattle.importing.specs.inner.Size as size
use Rattle.importing.specs.declared.writing.Spot.{Spot}
use Rattle.importing.specs.Answer.{Answer}
use Rattle.importing.specs.Answer as imported
use Rattle.importing.specs.Import.{Judged, taken, refused}
use Rattle.importing.specs.Lines.{Line, line, broken, line_on}
use Rattle.std.specs.Prelude.{Option, Some, None}
use Rattle.kind.specs.declared.refusals.Refusal.TheVariants.{LineShape, LineNumbers}

-- ---- shape

-- n numbers more before a line's: how many there are, and the place after its line feed
abbrev pub counted : ℕ → ℕ → Line → Shape
counted size n (line ns rest) = shape.Line (n + length ns) (size - length rest)
counted size n broken = shape.Broken

unfoldable pub shape_at : List ℕ → ℕ → Shape
shape_at s at = counted (length s) 0 (line_on (drop at s))

-- ---- numbers

-- a number within its limits, and the place after the byte that ends it
abbrev pub limited : ℕ → ℕ → ℕ → Parsed → Numeral
limited size low high (parsed.Is n next) = cond (ltb n low || (ltb high n || leb size next)) numeral.Wrong (numeral.Is n (next + 1))
limited size low high parsed.Not = numeral.Wrong

unfoldable pub within_at : List ℕ → ℕ → ℕ → ℕ → Numeral
within_at s at low high = limited (length s) low high (decimal_at s at)

abbrev pub onward : Numeral → (ℕ → ℕ → Numeral) → Numeral
onward (numeral.Is n next) rest = rest n next
onward numeral.Wrong rest = numeral.Wrong

-- n orders from order number i on, and their sum with l; `sum` is the centre's so far
unfoldable pub orders_at : List ℕ → ℕ → ℕ → ℕ → ℕ → ℕ → Numeral
orders_at s at zero i sum l = numeral.Is l at
orders_at s at (suc n) i sum l = onward (within_at s at 0 (most_order - sum)) (λ o next. orders_at s next n (i + 1) (sum_after i sum o) (l + o))

-- n numbers, each at most `high`, and the size that is handed on
unfoldable pub each_at : List ℕ → ℕ → ℕ → ℕ → ℕ → Numeral
each_at s at zero high size = numeral.Is size at
each_at s at (suc n) high size = onward (within_at s at 0 high) (λ p next. each_at s next n high size)

-- ---- a term's line

-- the Boys order, then n prefactors
unfoldable pub boys_at : List ℕ → ℕ → ℕ → Kind → ℕ → ℕ → Numeral
boys_at s at n k l size = onward (within_at s at 0 (most_boys k l)) (λ b next. each_at s next n (table_of k - 1) size)

-- a term of n numbers: how many bytes its writing has. All but the scale have one byte each, and so has the prefactor count
unfoldable pub term_at : List ℕ → ℕ → ℕ → Kind → ℕ → Numeral
term_at s at n k l =
    cond (ltb (most_prefactors k l + 2) n) numeral.Wrong
    (onward (within_at s at 1 most_scale) (λ scale next. boys_at s next (n - 2) k l (length_of scale + n)))

-- the size of what was read, and the place of the next line
abbrev pub sized : ℕ → Numeral → Size
sized next (numeral.Is z end) = size.Is z next
sized next numeral.Wrong = size.Refused LineNumbers

abbrev pub line_size : List ℕ → ℕ → Kind → ℕ → Shape → Size
line_size s at k l (shape.Line n next) = cond (ltb n 2) (size.Refused LineShape) (sized next (term_at s at n k l))
line_size s at k l shape.Broken = size.Refused LineShape

-- a missing line is 22
unfoldable pub term_line_at : List ℕ → ℕ → Kind → ℕ → Size
term_line_at s at k l = cond (leb (length s) at) (size.Refused LineNumbers) (line_size s at k l (shape_at s at))

abbrev pub too_many : ℕ → Shape → Answer
too_many number (shape.Line n next) = cond (ltb n 2) (imported.Refused LineShape number) (imported.Refused LineNumbers number)
too_many number shape.Broken = imported.Refused LineShape number

-- nothing follows the last term
unfoldable pub end_at : List ℕ → ℕ → ℕ → ℕ → ℕ → Answer
end_at s at number size count = cond (leb (length s) at) (imported.Roll size count) (too_many number (shape_at s at))

abbrev pub on_size : Size → ℕ → (ℕ → ℕ → Answer) → Answer
on_size (size.Is z next) number rest = rest z next
on_size (size.Refused r) number rest = imported.Refused r number

-- the lines of the terms that are left, after bytes of a size, in a roll of so many terms
unfoldable pub terms_at : List ℕ → ℕ → ℕ → ℕ → Kind → ℕ → ℕ → ℕ → Answer
terms_at s at number zero k l size count = end_at s at number size count
terms_at s at number (suc left) k l size count = on_size (term_line_at s at k l) number (λ z next. terms_at s next (number + 1) left k l (size + z) count)

-- ---- the first line

abbrev pub counted_head : Kind → ℕ → Numeral → FirstLine
counted_head k l (numeral.Is terms next) = head.Is k l terms
counted_head k l numeral.Wrong = head.Wrong

abbrev pub ordered_head : List ℕ → Kind → Numeral → FirstLine
ordered_head s k (numeral.Is l at) = counted_head k l (within_at s at 1 most_terms)
ordered_head s k numeral.Wrong = head.Wrong

unfoldable pub head_orders_at : List ℕ → ℕ → Kind → FirstLine
head_orders_at s at k = ordered_head s k (orders_at s at (orders_of k) 0 0 0)

abbrev pub named_head : List ℕ → ℕ → ℕ → Option Kind → FirstLine
named_head s n at (Some k) = cond (eqb n (orders_of k + 2)) (head_orders_at s at k) head.Wrong
named_head s n at None = head.Wrong

abbrev pub numbered_head : List ℕ → ℕ → Numeral → FirstLine
numbered_head s n (numeral.Is number next) = named_head s n next (kind_of number)
numbered_head s n numeral.Wrong = head.Wrong

-- a first line of n numbers: its kind, L and term count
unfoldable pub head_at : List ℕ → ℕ → FirstLine
head_at s n = numbered_head s n (within_at s 0 0 (number_of Coulomb))

abbrev pub on_head : FirstLine → (Kind → ℕ → ℕ → Answer) → Answer
on_head (Some h) rest = rest h.kind h.l h.terms
on_head None rest = imported.Refused LineNumbers 1

-- the whole text, after a first line of n numbers that ends at a place
unfoldable pub head_line_at : List ℕ → ℕ → ℕ → Answer
head_line_at s n next = on_head (head_at s n) (λ k l terms. terms_at s next 2 terms k l (1 + orders_of k + length_of terms) terms)

-- how long a roll is, and its terms
abbrev pub measured : Judged Roll → Answer
measured (taken r) = imported.Roll (length (roll_bytes r.kind r.orders r.terms)) (length r.terms)
measured (refused r n) = imported.Refused r n

-- ---- what is written

abbrev pub most_word : ℕ
most_word = 4294967295

abbrev pub onto : Numeral → (ℕ → ℕ → List ℕ) → List ℕ
onto (numeral.Is n next) rest = rest n next
onto numeral.Wrong rest = []

-- n numbers of a line, and the place after them
unfoldable pub copied_at : List ℕ → ℕ → ℕ → List ℕ
copied_at s at zero = []
copied_at s at (suc n) = onto (within_at s at 0 most_word) (λ v next. bytes_of v ++ copied_at s next n)

abbrev pub past : ℕ → Numeral → (ℕ → ℕ) → ℕ
past at (numeral.Is n next) rest = rest next
past at numeral.Wrong rest = at

unfoldable pub past_at : List ℕ → ℕ → ℕ → ℕ
past_at s at zero = at
past_at s at (suc n) = past at (within_at s at 0 most_word) (λ next. past_at s next n)

pub record Copied (s : List ℕ) (at n : ℕ) (before : List ℕ) (place : ℕ) (r : Spot) (after : List ℕ) : Type 0 where
  pub text : r.text ≡ past_at s at n
  pub roll : r.roll ≡ place + length (copied_at s at n)
  pub out : after ≡ sets before place (copied_at s at n)

-- the prefactors of a line of n numbers
abbrev pub further : ℕ → ℕ
further n = min (n - 2) most_word

-- a term's numbers, with the prefactor count between
unfoldable pub term_put : List ℕ → ℕ → ℕ → List ℕ
term_put s at n = copied_at s at 2 ++ (bytes_of (further n) ++ copied_at s (past_at s at 2) (further n))

abbrev pub on_shape : Shape → (ℕ → ℕ → List ℕ) → List ℕ
on_shape (shape.Line n next) rest = rest n next
on_shape shape.Broken rest = []

unfoldable pub terms_put : List ℕ → ℕ → ℕ → List ℕ
terms_put s at zero = []
terms_put s at (suc left) = on_shape (shape_at s at) (λ n next. term_put s at n ++ terms_put s next left)

unfoldable pub roll_put : List ℕ → ℕ → List ℕ
roll_put s terms = on_shape (shape_at s 0) (λ n next. copied_at s 0 n ++ terms_put s next terms)

-- bytes were written from a place on, and the place after them
pub record Wrote (bytes before : List ℕ) (place r : ℕ) (after : List ℕ) : Type 0 where
  pub answer : r ≡ place + length bytes
  pub out : after ≡ sets before place bytes
