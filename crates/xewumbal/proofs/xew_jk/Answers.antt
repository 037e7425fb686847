-- `xew_jk` meets its contract: the answer below in fields. Assumes nothing.
use Rattle.xewumbal.proofs.Fields.{jk-answered}
use Rattle.xewumbal.proofs.xew_jk.Goals as goal

pub returns : goal.returns
returns c = search jk-answered
