-- `say_head` meets its contract: three pieces. Assumes nothing.
use Rattle.saying.proofs.SaidLaws.{said-kept}
use Rattle.comparing.proofs.SaysLaws.{head-said}
use Rattle.comparing.proofs.pieces.say_head.Goals as goal

pub say_orders-second-requires : goal.say_orders-second-requires
say_orders-second-requires c = search said-kept

pub say_pair-requires : goal.say_pair-requires
say_pair-requires c = said-kept _ _ _ _ _ _ c.say_orders-second.ensures

pub returns : goal.returns
returns c = search head-said
