-- `xew_confirm` meets its contract: the answer below in fields. Assumes nothing.
use Rattle.xewumbal.proofs.SmallFields.{confirm-answered}
use Rattle.xewumbal.proofs.xew_confirm.Goals as goal

pub returns : goal.returns
returns c = search confirm-answered
