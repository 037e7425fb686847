-- `xew_check` meets its contract: the answer below in fields. Assumes nothing.
use Rattle.xewumbal.proofs.Fields.{check-answered}
use Rattle.xewumbal.proofs.xew_check.Goals as goal

pub returns : goal.returns
returns c = search check-answered
