-- `xew_next` meets its contract: the answer below in fields. Assumes nothing.
use Rattle.xewumbal.proofs.Fields.{next-answered}
use Rattle.xewumbal.proofs.xew_next.Goals as goal

pub returns : goal.returns
returns c = search next-answered
