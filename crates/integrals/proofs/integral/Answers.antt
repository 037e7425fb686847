-- `integral` meets its contract: the start of its centres. Assumes nothing.
use Rattle.integrals.proofs.Values.{started}
use Rattle.integrals.proofs.integral.Goals as goal

pub returns : goal.returns
returns c = search started
