-- `xew_compare` meets its contract: the answer below in fields. Assumes nothing.
use Rattle.xewumbal.proofs.Fields.{compare-answered}
use Rattle.xewumbal.proofs.xew_compare.Goals as goal

pub returns : goal.returns
returns c = search compare-answered
