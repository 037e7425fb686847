-- `say_named` meets its contract: two pieces. Assumes nothing.
use Rattle.saying.proofs.Pieces.{named-told}
use Rattle.saying.proofs.say_named.Goals as goal

pub returns : goal.returns
returns c = search named-told
