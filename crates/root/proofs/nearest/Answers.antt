-- `nearest` meets its contract: the definition's two cases. Assumes nothing.
use Rattle.root.proofs.Parts.{nearer-above, nearer-below}
use Rattle.root.proofs.nearest.Goals as goal

pub returns-then-part : goal.returns-then-part
returns-then-part c = search nearer-above

pub returns-else-part : goal.returns-else-part
returns-else-part c = search nearer-below
