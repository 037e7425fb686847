-- `short_end` meets its contract: a law for each length. Assumes nothing.
use Rattle.grouping.proofs.SummingLaws.{short-one, short-two, short-three}
use Rattle.grouping.proofs.summing.short_end.Goals as goal

pub returns-then-one_byte : goal.returns-then-one_byte
returns-then-one_byte c = search short-one

pub returns-then-one_byte-2 : goal.returns-then-one_byte-2
returns-then-one_byte-2 c = search short-two

pub returns-then-one_byte-3 : goal.returns-then-one_byte-3
returns-then-one_byte-3 c = search short-three
