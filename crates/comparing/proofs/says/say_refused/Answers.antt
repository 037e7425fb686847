-- `say_refused` meets its contract: three pieces. Assumes nothing.
use Rattle.comparing.proofs.SaysLaws.{sided-left, sided-right}
use Rattle.comparing.proofs.says.say_refused.Goals as goal

pub returns-in-Left : goal.returns-in-Left
returns-in-Left c = search sided-left

pub returns-in-Right : goal.returns-in-Right
returns-in-Right c = search sided-right
