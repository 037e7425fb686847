-- `xew_next2` meets its contract: the answer below in fields. Assumes nothing.
use Rattle.xewumbal.proofs.Fields.{next2-answered}
use Rattle.xewumbal.proofs.xew_next2.Goals as goal

pub returns : goal.returns
returns c = search next2-answered
