-- `is_short` meets its contract: a law for each way out. Assumes nothing.
use Rattle.form2.proofs.QuickLaws.{not_short, short-is}
use Rattle.form2.proofs.quick.is_short.Goals as goal

pub returns-then-roll-at : goal.returns-then-roll-at
returns-then-roll-at c = search not_short

pub returns-then-rest-lt3 : goal.returns-then-rest-lt3
returns-then-rest-lt3 c = search not_short

pub returns-then-boys-wide : goal.returns-then-boys-wide
returns-then-boys-wide c = search not_short

pub returns-then-longest-shared : goal.returns-then-longest-shared
returns-then-longest-shared c = search not_short

pub returns-then-most-shared : goal.returns-then-most-shared
returns-then-most-shared c = search not_short

pub returns : goal.returns
returns c = search short-is
