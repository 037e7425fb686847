-- `read` meets its contract: a law of Reading for each way out. Assumes nothing.
use native.Mathlib.Omega.{arith}
use Rattle.number.proofs.Reading.{read-ended, read_first, read_more, above-small}
use borrow.Author.Rules.{rules}
use Rattle.number.proofs.read.Goals as goal

pub returns-then-s-at : goal.returns-then-s-at
returns-then-s-at c = search read-ended

pub returns-then-one_byte : goal.returns-then-one_byte
returns-then-one_byte c = search read_first

pub above-requires : goal.above-requires
above-requires c = record {
  low_lt_group = search rules;
  by_index = λ n next e. above-small _ _ _ n next _ c.higher.ensures (omega arith) e;
}

pub returns : goal.returns
returns c = search read_more
