-- `say_reading` meets its contract: three pieces. Assumes nothing.
use Rattle.comparing.proofs.SaysLaws.{reading-said}
use Rattle.comparing.proofs.says.say_reading.Goals as goal

pub returns : goal.returns
returns c = search reading-said
