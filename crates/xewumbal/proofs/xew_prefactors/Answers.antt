-- `xew_prefactors` meets its contract: the answer below in fields. Assumes nothing.
use Rattle.xewumbal.proofs.Fields.{prefactors-answered}
use Rattle.xewumbal.proofs.xew_prefactors.Goals as goal

pub returns : goal.returns
returns c = search prefactors-answered
