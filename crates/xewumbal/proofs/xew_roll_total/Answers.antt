-- `xew_roll_total` meets its contract: the answer below in fields. Assumes nothing.
use Rattle.xewumbal.proofs.Fields.{roll-total-answered}
use Rattle.xewumbal.proofs.xew_roll_total.Goals as goal

pub returns : goal.returns
returns c = search roll-total-answered
