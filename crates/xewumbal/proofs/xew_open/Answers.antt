-- `xew_open` meets its contract: the answer below in fields. Assumes nothing.
use Rattle.xewumbal.proofs.Fields.{open-answered}
use Rattle.xewumbal.proofs.xew_open.Goals as goal

pub returns : goal.returns
returns c = search open-answered
