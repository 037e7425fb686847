-- `xew_check2` meets its contract: the answer below in fields. Assumes nothing.
use Rattle.xewumbal.proofs.Fields.{check2-answered}
use Rattle.xewumbal.proofs.xew_check2.Goals as goal

pub returns : goal.returns
returns c = search check2-answered
