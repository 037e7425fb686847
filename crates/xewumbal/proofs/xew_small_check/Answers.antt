-- `xew_small_check` meets its contract: the answer below in fields. Assumes nothing.
use Rattle.xewumbal.proofs.SmallFields.{small-check-answered}
use Rattle.xewumbal.proofs.xew_small_check.Goals as goal

pub returns : goal.returns
returns c = search small-check-answered
