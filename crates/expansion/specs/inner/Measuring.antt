-- How much a list of terms measures: its terms and their bytes, or that they are too many.
use Rattle.std.specs.Prelude.{ℕ, ◌+◌, ◌*◌, ◌/◌, ◌^◌, ◌≤◌, ◌≡◌, cond, List, [], ◌∷◌, leb, eqb, length, get_or, Option, Some, None}
use Rattle.kind.specs.declared.Kind.{Kind}
use Rattle.kind.specs.declared.Kind.TheVariants.{Overlap, Kinetic, Nuclear, Moment, Coulomb}
use Rattle.kind.specs.Limits.{most_terms}
use Rattle.term.specs.Terms.{Term}
use Rattle.steps.specs.declared.CentreName.{CentreName}
use Rattle.steps.specs.declared.Axis.{Axis}
use Rattle.roll.specs.Bytes.{terms_bytes}
use Rattle.expansion.specs.declared.Path.{Path}
use Rattle.expansion.specs.inner.Walking.{Good, terms_below, terms_from}

-- terms and their bytes, or none where the terms are too many
abbrev pub Measured : Type 0
Measured = Option (ℕ × ℕ)

pattern abbrev pub Fits : ℕ → ℕ → Measured
Fits terms bytes = Some (terms, bytes)

unfoldable pub measured : List Term → Measured
measured ts = cond (leb (length ts) most_terms) (Fits (length ts) (length (terms_bytes ts))) None

-- both together
unfoldable pub plus : Measured → Measured → Measured
plus None m = None
plus (Fits a b) None = None
plus (Fits a b) (Fits c d) = cond (leb (a + c) most_terms) (Fits (a + c) (b + d)) None

-- branches 0 and 1, 2 and 3, 4 and 5
abbrev pub in_pairs : ℕ → ℕ
in_pairs n = get_or (2 ∷ 1 ∷ 2 ∷ 1 ∷ 2 ∷ []) n 1

unfoldable pub width_of : Kind → ℕ → ℕ
width_of Overlap n = 1
width_of Kinetic n = 1
width_of Nuclear n = in_pairs n
width_of Moment n = 1
width_of Coulomb n = in_pairs n

abbrev pub group_of : ℕ → Measured → Measured
group_of width m = cond (eqb width 2) (plus m m) m

abbrev pub skip_of : ℕ → ℕ → ℕ
skip_of width times = cond (eqb width 2) (times / 256) (times / 16)

abbrev pub terms_in : Measured → ℕ
terms_in (Fits a b) = a
terms_in None = 0

abbrev pub bytes_in : Measured → ℕ
bytes_in (Fits a b) = b
bytes_in None = 0

-- no term takes more than 32 bytes
pub record SmallMeasure (m : Measured) : Type 0 where
  pub few : terms_in m ≤ most_terms
  pub short : bytes_in m ≤ 32 * terms_in m

-- a path with this scale and this many prefactors on the way from a request
pub record MeasureMay (k : Kind) (left scale count : ℕ) : Type 0 where
  pub path : Path
  pub scale-is : path.scale ≡ scale
  pub count-is : path.count ≡ count
  pub good : Good k left path

-- what is told holds of every such path
pub record Measures (k : Kind) (left scale count : ℕ) (r : Measured) : Type 0 where
  pub is : (p : Path) → p.scale ≡ scale → p.count ≡ count → Good k left p → r ≡ measured (terms_below k left p)
  pub small-enough : SmallMeasure r

pub record MeasuresFrom (k : Kind) (left scale count : ℕ) (c : CentreName) (x : Axis) (number : ℕ) (r : Measured) : Type 0 where
  pub is : (p : Path) → p.scale ≡ scale → p.count ≡ count → Good k left p → r ≡ measured (terms_from k left p c x number)
  pub small-enough : SmallMeasure r

-- what is told of the branch of a number holds of each in its group
pub record MeasuresGroup (k : Kind) (left scale count : ℕ) (c : CentreName) (x : Axis) (number : ℕ) (r : Measured) : Type 0 where
  pub is : (p : Path) → p.scale ≡ scale → p.count ≡ count → Good k left p
      → measured (terms_from k left p c x number) ≡ plus (group_of (width_of k number) r) (measured (terms_from k left p c x (number + width_of k number)))
  pub small-enough : SmallMeasure r

-- a measure in one word: so much for each term, and their bytes
abbrev pub one_term : ℕ
one_term = 2 ^ 32

abbrev pub over_word : ℕ
over_word = (most_terms + 1) * one_term

unfoldable pub word_of : Measured → ℕ
word_of (Fits a b) = a * one_term + b
word_of None = over_word

-- the word of a measure of which something is told
pub record WordOf (Told : Measured → Type 0) (r : ℕ) : Type 0 where
  pub size : Measured
  pub word : r ≡ word_of size
  pub told : Told size

-- what a word says is the one small measure that has it
pub record Unpacked (word : ℕ) (r : Measured) : Type 0 where
  pub only : (m : Measured) → SmallMeasure m → word ≡ word_of m → r ≡ m
