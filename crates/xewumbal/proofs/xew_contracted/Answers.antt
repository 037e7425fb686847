-- `xew_contracted` meets its contract: the answer below in fields. Assumes nothing.
use Rattle.xewumbal.proofs.Fields.{contracted-answered}
use Rattle.xewumbal.proofs.xew_contracted.Goals as goal

pub returns : goal.returns
returns c = search contracted-answered
