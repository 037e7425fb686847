-- `is_short` meets its contract: a law for each way out. Assumes nothing.
use Rattle.roll.proofs.AgainLaws.{not_short, short-is}
use Rattle.roll.proofs.again.is_short.Goals as goal

pub returns-then-roll-at : goal.returns-then-roll-at
returns-then-roll-at c = search not_short

pub returns-then-rest-lt3 : goal.returns-then-rest-lt3
returns-then-rest-lt3 c = search not_short

pub returns-then-one_byte-3 : goal.returns-then-one_byte-3
returns-then-one_byte-3 c = search short-is

pub returns-else-one_byte-3 : goal.returns-else-one_byte-3
returns-else-one_byte-3 c = search not_short

pub returns-else-one_byte-2 : goal.returns-else-one_byte-2
returns-else-one_byte-2 c = search not_short

pub returns-else-one_byte : goal.returns-else-one_byte
returns-else-one_byte c = search not_short
