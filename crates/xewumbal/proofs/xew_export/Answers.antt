-- `xew_export` meets its contract: the answer below in fields. Assumes nothing.
use Rattle.xewumbal.proofs.CommasFields.{export-answered}
use Rattle.xewumbal.proofs.xew_export.Goals as goal

pub returns : goal.returns
returns c = search export-answered
