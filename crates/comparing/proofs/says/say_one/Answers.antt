-- `say_one` meets its contract: two pieces. Assumes nothing.
use Rattle.comparing.proofs.SaysLaws.{one-said}
use Rattle.comparing.proofs.says.say_one.Goals as goal

pub returns : goal.returns
returns c = search one-said
