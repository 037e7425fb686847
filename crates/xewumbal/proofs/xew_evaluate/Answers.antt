-- `xew_evaluate` meets its contract: the answer below in fields. Assumes nothing.
use Rattle.xewumbal.proofs.Fields.{evaluate-answered}
use Rattle.xewumbal.proofs.xew_evaluate.Goals as goal

pub returns : goal.returns
returns c = search evaluate-answered
