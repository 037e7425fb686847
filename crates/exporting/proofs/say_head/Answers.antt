-- `say_head` meets its contract: three pieces. Assumes nothing.
use Rattle.exporting.proofs.Lines.{head-said}
use Rattle.exporting.proofs.say_head.Goals as goal

pub returns : goal.returns
returns c = search head-said
