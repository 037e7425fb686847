-- `xew_measure` meets its contract: the answer below in fields. Assumes nothing.
use Rattle.xewumbal.proofs.Fields.{measure-answered}
use Rattle.xewumbal.proofs.xew_measure.Goals as goal

pub returns : goal.returns
returns c = search measure-answered
