-- `is_short` meets its contract: a law for each way out. Assumes nothing.
use Rattle.form2.proofs.ShorterLaws.{not_short, short-is}
use Rattle.form2.proofs.shorter.is_short.Goals as goal

pub returns-then-roll-at : goal.returns-then-roll-at
returns-then-roll-at c = search not_short

pub returns-then-rest-lt2 : goal.returns-then-rest-lt2
returns-then-rest-lt2 c = search not_short

pub returns-then-one_byte-2 : goal.returns-then-one_byte-2
returns-then-one_byte-2 c = search short-is

pub returns-else-one_byte-2 : goal.returns-else-one_byte-2
returns-else-one_byte-2 c = search not_short

pub returns-else-one_byte : goal.returns-else-one_byte
returns-else-one_byte c = search not_short
