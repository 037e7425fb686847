-- `xew_compare_next` meets its contract: the answer below in fields. Assumes nothing.
use Rattle.xewumbal.proofs.Fields.{compare-next-answered}
use Rattle.xewumbal.proofs.xew_compare_next.Goals as goal

pub returns : goal.returns
returns c = search compare-next-answered
