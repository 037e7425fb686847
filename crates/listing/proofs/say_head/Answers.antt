-- `say_head` meets its contract: three pieces. Assumes nothing.
use Rattle.listing.proofs.Lines.{head-said}
use Rattle.listing.proofs.say_head.Goals as goal

pub returns : goal.returns
returns c = search head-said
