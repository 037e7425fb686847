-- `leaf` meets its contract.
use native.Mathlib.Omega.{arith}
use Rattle.number.proofs.Writing.{length-few}
use Rattle.expansion.proofs.measure.leaf.Goals as goal

pub overflow_add-result : goal.overflow_add-result
overflow_add-result c = omega (arith, length-few c.args.scale)

pub overflow_add-result-2 : goal.overflow_add-result-2
overflow_add-result-2 c = omega (arith, length-few c.args.scale)

pub returns : goal.returns
returns c = (cc, omega (arith, length-few c.args.scale))
