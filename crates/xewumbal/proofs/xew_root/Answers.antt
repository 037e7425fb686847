-- `xew_root` meets its contract: the answer below in fields. Assumes nothing.
use Rattle.xewumbal.proofs.Fields.{root-answered}
use Rattle.xewumbal.proofs.xew_root.Goals as goal

pub returns : goal.returns
returns c = search root-answered
