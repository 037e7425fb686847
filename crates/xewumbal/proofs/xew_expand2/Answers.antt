-- `xew_expand2` meets its contract: the answer below in fields. Assumes nothing.
use Rattle.xewumbal.proofs.Fields.{expand2-answered}
use Rattle.xewumbal.proofs.xew_expand2.Goals as goal

pub returns : goal.returns
returns c = search expand2-answered
