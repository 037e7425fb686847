-- `say_each` meets its contract: each turn takes one number off what is still to be said. Assumes nothing.
use Rattle.saying.proofs.Pieces.{each_more, each-done}
use Rattle.saying.proofs.say_each.Goals as goal

pub loop-value-preserved : goal.loop-value-preserved
loop-value-preserved c = search each_more

pub returns : goal.returns
returns c = search each-done
