-- `say_first` meets its contract: three pieces. Assumes nothing.
use Rattle.saying.proofs.SaidLaws.{said-kept}
use Rattle.comparing.proofs.SaysLaws.{first_said}
use Rattle.comparing.proofs.says.say_first.Goals as goal

pub say_pair-requires : goal.say_pair-requires
say_pair-requires c = said-kept _ _ _ _ _ _ c.say-ended.ensures.said

pub returns : goal.returns
returns c = search first_said
