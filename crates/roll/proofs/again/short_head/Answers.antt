-- `short_head` meets its contract: three bytes are the three numbers. Assumes nothing.
use Rattle.roll.proofs.AgainLaws.{short-made}
use Rattle.roll.proofs.again.short_head.Goals as goal

pub returns : goal.returns
returns c = search short-made
