-- `short_end` meets its contract: the third byte tells how many follow. Assumes nothing.
use Rattle.roll.proofs.AgainLaws.{short-end}
use Rattle.roll.proofs.again.short_end.Goals as goal

pub returns : goal.returns
returns c = search short-end
