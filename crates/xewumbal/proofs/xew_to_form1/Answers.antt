-- `xew_to_form1` meets its contract: the answer below in fields. Assumes nothing.
use Rattle.xewumbal.proofs.Fields.{to-form1-answered}
use Rattle.xewumbal.proofs.xew_to_form1.Goals as goal

pub returns : goal.returns
returns c = search to-form1-answered
