-- `charged` meets its contract: a nuclear value, or another. Assumes nothing.
use Rattle.std.proofs.Common.{arith}
use Rattle.geometry.specs.Charges.{charged}
use Rattle.geometry.proofs.charged.Goals as goal

pub returns-in-Nuclear : goal.returns-in-Nuclear
unfolding charged
returns-in-Nuclear c = rw c.in-Nuclear.is

pub returns-in_default : goal.returns-in_default
unfolding charged
returns-in_default c = grind arith
