-- The proof of the cycle of calls {higher}: a law of Reading for each way out; the bytes that may follow fall. Assumes nothing.
use borrow.Author.Rules.{rules}
use native.Mathlib.Omega.{arith}
use Rattle.number.proofs.Reading.{higher-ended, higher-zero, higher-large, higher-fifth, higher-last, higher-more, above-small}
use Rattle.number.proofs.+higher.Goals as goal

pub returns-then-s-next : goal.returns-then-s-next
returns-then-s-next t c = search higher-ended

pub returns-then-b-eq0 : goal.returns-then-b-eq0
returns-then-b-eq0 t c = search higher-zero

pub returns-then-b-gt15 : goal.returns-then-b-gt15
returns-then-b-gt15 t c = search higher-large

pub returns-then-more-eq0 : goal.returns-then-more-eq0
returns-then-more-eq0 t c = search higher-fifth

pub returns-then-b-lt-GROUP : goal.returns-then-b-lt-GROUP
returns-then-b-lt-GROUP t c = search higher-last

pub above-requires : goal.above-requires
above-requires t c =
    record {
      low_lt_group = search rules;
      by_index = λ n next e. above-small _ _ _ n next _ c.higher.ensures (omega arith) e;
    }

pub returns : goal.returns
returns t c = search higher-more
