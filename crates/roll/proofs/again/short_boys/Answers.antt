-- `short_boys` meets its contract: the second byte. Assumes nothing.
use Rattle.roll.proofs.AgainLaws.{short-boys}
use Rattle.roll.proofs.again.short_boys.Goals as goal

pub returns : goal.returns
returns c = search short-boys
