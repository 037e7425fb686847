-- Inside the crate: terms that are gone over and not kept. `boys` is the most Boys order, `most` the most prefactors, `table` the table size.
-- What is promised is said by Reading and Header; proofs/OverLaws shows that going over, with the limits of a kind and L, says the same.
use Rattle.std.specs.Prelude.{ℕ, zero, suc, ◌+◌, ◌≤◌, ◌<◌, ◌≡◌, true, cond, List, eqb, length, get_or, Result, Ok, Err, ⊤}
use Rattle.kind.specs.Limits.{most_scale}
use Rattle.number.specs.Numbers.{one_byte}
use Rattle.kind.specs.declared.refusals.Refusal.TheVariants.{BadRoll}
use Rattle.kind.specs.declared.refusals.Fault.{Fault}
use Rattle.roll.specs.declared.header.Opened.{Opened}
use Rattle.roll.specs.Field.{Field, fault}
use Rattle.roll.specs.Field as field
use Rattle.roll.specs.Reading.{Reading, got, refused, within_at, prefactors_at}

-- a number of one byte, within its limits
pub record Quick (s : List ℕ) (at low high : ℕ) : Type 0 where
  pub inside : at < length s
  pub in_one_byte : one_byte (get_or s at 0) ≡ true
  pub above : low ≤ get_or s at 0
  pub below : get_or s at 0 ≤ high

-- the bytes from one place to another are at most `last`
pub record SmallBytes (s : List ℕ) (at end last : ℕ) : Type 0 where
  pub each : (i : ℕ) → at ≤ i → i < end → get_or s i 0 ≤ last

-- so many numbers of one byte each
pub record OneByteEach (s : List ℕ) (at count last : ℕ) : Type 0 where
  pub in_one_byte : one_byte last ≡ true
  pub inside : at + count ≤ length s
  pub small : SmallBytes s at (at + count) last

-- the place after what was read, or the refusal
abbrev pub over : {A : Type 0} → Reading A → Result ℕ Fault
over (got a next) = Ok next
over (refused r place) = Err (fault r place)

abbrev pub over_then : Field → (ℕ → ℕ → Result ℕ Fault) → Result ℕ Fault
over_then (field.Is n next) rest = rest n next
over_then (Err e) rest = Err e

unfoldable pub count_over : List ℕ → ℕ → ℕ → ℕ → Result ℕ Fault
count_over s at most table = over_then (within_at s at 0 most) (λ count next. over (prefactors_at s next count table))

unfoldable pub boys_over : List ℕ → ℕ → ℕ → ℕ → ℕ → Result ℕ Fault
boys_over s at boys most table = over_then (within_at s at 0 boys) (λ n next. count_over s next most table)

unfoldable pub term_over : List ℕ → ℕ → ℕ → ℕ → ℕ → Result ℕ Fault
term_over s at boys most table = over_then (within_at s at 1 most_scale) (λ n next. boys_over s next boys most table)

abbrev pub end_over : ℕ → ℕ → Result ⊤ Fault
end_over length place = cond (eqb place length) (Ok tt) (Err (fault BadRoll place))

-- on from the place after a term
abbrev pub terms_then : Result ℕ Fault → (ℕ → Result ⊤ Fault) → Result ⊤ Fault
terms_then (Ok next) rest = rest next
terms_then (Err e) rest = Err e

unfoldable pub terms_over : List ℕ → ℕ → ℕ → ℕ → ℕ → ℕ → Result ⊤ Fault
terms_over s at zero boys most table = end_over (length s) at
terms_over s at (suc left) boys most table = terms_then (term_over s at boys most table) (λ next. terms_over s next left boys most table)

-- the header's answer where the terms are gone over to the end
abbrev pub judged_over : Opened → Result ⊤ Fault → Result Opened Fault
judged_over o (Ok u) = Ok o
judged_over o (Err e) = Err e

-- whether terms read to the end
abbrev pub over_of : {A : Type 0} → Reading A → Result ⊤ Fault
over_of (got a next) = Ok tt
over_of (refused r place) = Err (fault r place)
