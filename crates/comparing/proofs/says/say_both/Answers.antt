-- `say_both` meets its contract: four pieces. Assumes nothing.
use Rattle.comparing.proofs.SaysLaws.{both-said}
use Rattle.comparing.proofs.says.say_both.Goals as goal

pub returns : goal.returns
returns c = search both-said
