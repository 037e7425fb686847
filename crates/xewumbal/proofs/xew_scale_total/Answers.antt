-- `xew_scale_total` meets its contract: the answer below in fields. Assumes nothing.
use Rattle.xewumbal.proofs.Fields.{scale-total-answered}
use Rattle.xewumbal.proofs.xew_scale_total.Goals as goal

pub returns : goal.returns
returns c = search scale-total-answered
