-- Salvages worked out by the definition: overlap Ax1 Bx1, whose two terms are 01 00 02 00 01 and 01 00 01 07, in form 2 01 00 00 02 00 01 and 01 00 00 01 07.
use Prim.Native.Nat.{ℕ}
use mathlib.Core.Path.{◌≡◌, refl}
use mathlib.Core.Bool.{Bool, true, false}
use mathlib.Core.List.{List, [], ◌∷◌, ◌++◌, map}
use lib.ListN.{replicate}
use Rattle.laws.specs.Same.{same_numbers}
use Rattle.laws.specs.Total.{total}
use Rattle.number.specs.Numbers.{groups, bytes_of, higher, read_from, read_at}
use Rattle.steps.specs.Choice.{chosen, first_axis}
use Rattle.steps.specs.Steps.{branches, times, lowered}
use Rattle.steps.specs.States.{step, turns, nexts}
use Rattle.histories.specs.History.{depth, in_turn, walk, expand}
use Rattle.term.specs.Terms.{same_term}
use Rattle.roll.specs.Bytes.{numbers_bytes, term_bytes, terms_bytes, roll_bytes}
use Rattle.roll.specs.Reading.{within_at, orders_at, counted_at, header_at, prefactors_at, count_at, boys_at, term_at}
use Rattle.form2.specs.Bytes.{shared, further_of, term_bytes2, terms_bytes2, roll_bytes2}
use Rattle.form2.specs.Header.{is_form2}
use Rattle.form2.specs.Reading.{header_at2, further_count_at, shared_at, boys_at2, front_at, further_at, term_after}
use Rattle.expansion.specs.Expanding.{roll_of, roll_of2}
use Rattle.salvaging.specs.declared.After.{After}
use Rattle.salvaging.specs.declared.After.TheVariants.{Unknown, None, Bytes}
use Rattle.salvaging.specs.Salvage.{Salvaged, form_of, request_of, fresh_terms, fresh_roll, leading, leading_of, told_of, salvaged_in, salvaged_of, out_of}
use Rattle.std.specs.Prelude.{Ok, Err}
use Rattle.roll.specs.Field.{fault}
use Rattle.kind.specs.declared.refusals.Refusal.TheVariants.{StartBeyondEnd, NoRoom, BadRoll, CutRoll}

-- ---- in form 1

abbrev head : ℕ → List ℕ
head count = 0x00 ∷ 0x01 ∷ 0x00 ∷ 0x00 ∷ 0x01 ∷ 0x00 ∷ 0x00 ∷ count ∷ []

abbrev terms : List ℕ
terms = 0x01 ∷ 0x00 ∷ 0x02 ∷ 0x00 ∷ 0x01 ∷ 0x01 ∷ 0x00 ∷ 0x01 ∷ 0x07 ∷ []

-- ---- in form 2

abbrev head2 : ℕ → List ℕ
head2 count = 0x10 ∷ 0x01 ∷ 0x00 ∷ 0x00 ∷ 0x01 ∷ 0x00 ∷ 0x00 ∷ count ∷ []

abbrev terms2 : List ℕ
terms2 = 0x01 ∷ 0x00 ∷ 0x00 ∷ 0x02 ∷ 0x00 ∷ 0x01 ∷ 0x01 ∷ 0x00 ∷ 0x00 ∷ 0x01 ∷ 0x07 ∷ []

-- ---- the cases

-- the damaged roll, the bytes of the output and the start in it, and the answer
pub record Case : Type 0 where
  pub roll : List ℕ
  pub room : ℕ
  pub start : ℕ
  pub answer : Salvaged

abbrev case : List ℕ → ℕ → ℕ → Salvaged → Case
case roll room start answer = record { roll = roll; room = room; start = start; answer = answer }

-- of two fresh terms in so many bytes
abbrev two : ℕ → ℕ → ℕ → Bool → After → Salvaged
two long kept anew other after = Ok (record { length = long; terms = 2; kept = kept; anew = anew; miscounted = other; after = after })

abbrev pub cases : List Case
cases =
    -- nothing is damaged
    case (head 2 ++ terms) 17 0 (two 17 2 0 false None)
    ∷ case (head2 2 ++ terms2) 20 1 (two 19 2 0 false None)
    ∷
    -- another count is stored: it does not limit the reading
    case (head 1 ++ terms) 17 0 (two 17 2 0 true None)
    ∷ case (head 3 ++ terms) 17 0 (two 17 2 0 true None)
    ∷ case (head2 1 ++ terms2) 19 0 (two 19 2 0 true None)
    ∷ case (head 1 ++ terms ++ (0xff ∷ [])) 17 0 (two 17 2 0 true Bytes)
    ∷
    -- bytes follow; they are not looked at where a term differs
    case (head 2 ++ terms ++ (0xff ∷ [])) 17 0 (two 17 2 0 false Bytes)
    ∷ case (head2 2 ++ terms2 ++ (0x01 ∷ [])) 19 0 (two 19 2 0 false Bytes)
    ∷ case (head 2 ++ (0x01 ∷ 0x00 ∷ 0x02 ∷ 0x00 ∷ 0x02 ∷ 0x01 ∷ 0x00 ∷ 0x01 ∷ 0x07 ∷ 0xff ∷ [])) 17 0 (two 17 0 2 false Unknown)
    ∷
    -- the second term is another one, is cut, is missing
    case (head 2 ++ (0x01 ∷ 0x00 ∷ 0x02 ∷ 0x00 ∷ 0x01 ∷ 0x01 ∷ 0x00 ∷ 0x01 ∷ 0x06 ∷ [])) 17 0 (two 17 1 1 false Unknown)
    ∷ case (head 2 ++ (0x01 ∷ 0x00 ∷ 0x02 ∷ 0x00 ∷ 0x01 ∷ 0x01 ∷ 0x00 ∷ 0x01 ∷ [])) 17 0 (two 17 1 1 false Unknown)
    ∷ case (head 1 ++ (0x01 ∷ 0x00 ∷ 0x02 ∷ 0x00 ∷ 0x01 ∷ [])) 17 0 (two 17 1 1 true Unknown)
    ∷
    -- terms of the other form
    case (head2 2 ++ terms) 19 0 (two 19 0 2 false Unknown)
    ∷
    -- the header: no byte, a kind of neither form, an order above the limit, a count that is cut
    case [] 17 0 (Err (fault CutRoll 0))
    ∷ case (0x05 ∷ []) 17 0 (Err (fault BadRoll 0))
    ∷ case (0x00 ∷ 0x07 ∷ []) 17 0 (Err (fault BadRoll 1))
    ∷ case (0x10 ∷ 0x01 ∷ 0x00 ∷ 0x00 ∷ 0x01 ∷ 0x00 ∷ 0x00 ∷ []) 17 0 (Err (fault CutRoll 7))
    ∷
    -- a start beyond the output, whatever its room, and only where the header reads; no room
    case (head 2 ++ terms) 17 18 (Err (fault StartBeyondEnd 0))
    ∷ case (head 2 ++ terms) 0 1 (Err (fault StartBeyondEnd 0))
    ∷ case [] 0 1 (Err (fault CutRoll 0))
    ∷ case (head 2 ++ terms) 17 1 (Err (fault NoRoom 0))
    ∷ []

pub computed : map (λ (c : Case). salvaged_of c.roll (replicate c.room 0) c.start) cases ≡ map (λ (c : Case). c.answer) cases
unfolding salvaged_of salvaged_in told_of leading_of leading fresh_roll fresh_terms request_of form_of is_form2 same_term same_numbers roll_of roll_of2 roll_bytes roll_bytes2 terms_bytes terms_bytes2 term_bytes term_bytes2 shared further_of numbers_bytes bytes_of groups chosen first_axis branches times lowered total step turns nexts depth in_turn walk expand header_at header_at2 orders_at counted_at within_at read_at read_from higher term_at boys_at count_at prefactors_at term_after front_at boys_at2 shared_at further_count_at further_at
computed = refl

-- the output then holds the fresh roll, and all else is as it was
pub written : out_of (head 1 ++ (0x01 ∷ 0x00 ∷ [])) (replicate 20 0xa5) 2 ≡ (0xa5 ∷ 0xa5 ∷ []) ++ head 2 ++ terms ++ (0xa5 ∷ [])
unfolding out_of salvaged_of salvaged_in told_of leading_of leading fresh_roll fresh_terms request_of form_of is_form2 same_term same_numbers roll_of roll_bytes terms_bytes term_bytes numbers_bytes bytes_of groups chosen first_axis branches times lowered total step turns nexts depth in_turn walk expand header_at orders_at counted_at within_at read_at read_from higher term_at boys_at count_at prefactors_at
written = refl
