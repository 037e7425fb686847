-- `long_head` meets its contract: each number is read where the one before ends. Assumes nothing.
use Rattle.roll.proofs.AgainLaws.{head-made}
use Rattle.roll.proofs.again.long_head.Goals as goal

pub returns : goal.returns
returns c = search head-made
