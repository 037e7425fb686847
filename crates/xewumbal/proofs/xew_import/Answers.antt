-- `xew_import` meets its contract: the answer below in fields. Assumes nothing.
use Rattle.xewumbal.proofs.CommasFields.{import-answered}
use Rattle.xewumbal.proofs.xew_import.Goals as goal

pub returns : goal.returns
returns c = search import-answered
