-- `xew_expand` meets its contract: the answer below in fields. Assumes nothing.
use Rattle.xewumbal.proofs.Fields.{expand-answered}
use Rattle.xewumbal.proofs.xew_expand.Goals as goal

pub returns : goal.returns
returns c = search expand-answered
