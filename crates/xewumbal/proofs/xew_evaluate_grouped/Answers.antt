-- `xew_evaluate_grouped` meets its contract: the answer below in fields. Assumes nothing.
use Rattle.xewumbal.proofs.Fields.{grouped-answered}
use Rattle.xewumbal.proofs.xew_evaluate_grouped.Goals as goal

pub returns : goal.returns
returns c = search grouped-answered
