-- `order` meets its contract.
use Rattle.steps.proofs.Packed.{order-shifted}
use native.Mathlib.Omega.{arith}
use Rattle.steps.proofs.choice.order.Goals as goal

pub returns : goal.returns
returns c = (search order-shifted, omega arith)
