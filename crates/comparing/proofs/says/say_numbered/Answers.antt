-- `say_numbered` meets its contract: three pieces. Assumes nothing.
use Rattle.comparing.proofs.SaysLaws.{numbered-said}
use Rattle.comparing.proofs.says.say_numbered.Goals as goal

pub returns : goal.returns
returns c = search numbered-said
