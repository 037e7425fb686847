-- `xew_to_form2` meets its contract: the answer below in fields. Assumes nothing.
use Rattle.xewumbal.proofs.Fields.{to-form2-answered}
use Rattle.xewumbal.proofs.xew_to_form2.Goals as goal

pub returns : goal.returns
returns c = search to-form2-answered
