-- `xew_salvage` meets its contract: the answer below in fields. Assumes nothing.
use Rattle.xewumbal.proofs.Fields.{salvage-answered}
use Rattle.xewumbal.proofs.xew_salvage.Goals as goal

pub returns : goal.returns
returns c = search salvage-answered
