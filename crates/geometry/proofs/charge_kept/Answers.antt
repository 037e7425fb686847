-- `charge_kept` meets its contract: a nucleus, or another kind. Assumes nothing.
use Rattle.std.proofs.Common.{arith}
use Rattle.geometry.specs.Charges.{charge_kept}
use Rattle.geometry.proofs.charge_kept.Goals as goal

pub returns-in-Nuclear : goal.returns-in-Nuclear
unfolding charge_kept
returns-in-Nuclear c = rw c.in-Nuclear.is

pub returns-in_default : goal.returns-in_default
unfolding charge_kept
returns-in_default c = grind arith
