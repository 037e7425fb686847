-- `xew_shell4` meets its contract: the answer below in fields. Assumes nothing.
use Rattle.xewumbal.proofs.Fields.{shell4-answered}
use Rattle.xewumbal.proofs.xew_shell4.Goals as goal

pub returns : goal.returns
returns c = search shell4-answered
