-- `xew_nuclear` meets its contract: the answer below in fields. Assumes nothing.
use Rattle.xewumbal.proofs.Fields.{nuclear-answered}
use Rattle.xewumbal.proofs.xew_nuclear.Goals as goal

pub returns : goal.returns
returns c = search nuclear-answered
