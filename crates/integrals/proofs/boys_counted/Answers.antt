-- `boys_counted` meets its contract: as many as the kind asks for. Assumes nothing.
use Rattle.std.proofs.Common.{arith}
use Rattle.integrals.specs.Values.{boys_counted}
use Rattle.integrals.proofs.boys_counted.Goals as goal

pub returns : goal.returns
unfolding boys_counted
returns c = grind arith
