-- `entries` meets its contract: the first `p` entries stand. Assumes nothing.
use Rattle.jk.proofs.Places.{all-stand}
use Rattle.jk.proofs.entries.Goals as goal

pub returns : goal.returns
returns c = search all-stand
