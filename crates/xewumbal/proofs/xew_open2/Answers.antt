-- `xew_open2` meets its contract: the answer below in fields. Assumes nothing.
use Rattle.xewumbal.proofs.Fields.{open2-answered}
use Rattle.xewumbal.proofs.xew_open2.Goals as goal

pub returns : goal.returns
returns c = search open2-answered
