-- `say_front` meets its contract: two pieces. Assumes nothing.
use Rattle.exporting.proofs.Lines.{front-said}
use Rattle.exporting.proofs.say_front.Goals as goal

pub returns : goal.returns
returns c = search front-said
