-- `xew_small_expand` meets its contract: the answer below in fields. Assumes nothing.
use Rattle.xewumbal.proofs.SmallFields.{small-expand-answered}
use Rattle.xewumbal.proofs.xew_small_expand.Goals as goal

pub returns : goal.returns
returns c = search small-expand-answered
