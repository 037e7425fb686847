-- `contracts` meets its contract: two kinds, or another. Assumes nothing.
use Rattle.std.proofs.Common.{arith}
use Rattle.contracting.specs.Elements.{contracts}
use Rattle.contracting.proofs.contracts.Goals as goal

pub returns-in-Overlap : goal.returns-in-Overlap
unfolding contracts
returns-in-Overlap c = grind arith

pub returns-in_default : goal.returns-in_default
unfolding contracts
returns-in_default c = grind arith
