-- `xew_shell2` meets its contract: the answer below in fields. Assumes nothing.
use Rattle.xewumbal.proofs.Fields.{shell2-answered}
use Rattle.xewumbal.proofs.xew_shell2.Goals as goal

pub returns : goal.returns
returns c = search shell2-answered
