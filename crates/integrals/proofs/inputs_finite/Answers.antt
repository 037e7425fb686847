-- `inputs_finite` meets its contract: one part, then the next. Assumes nothing.
use Rattle.std.proofs.Common.{arith}
use Rattle.integrals.specs.Values.{inputs_finite}
use Rattle.integrals.proofs.inputs_finite.Goals as goal

pub returns-then-finite : goal.returns-then-finite
unfolding inputs_finite
returns-then-finite c = grind arith

pub returns-else-finite : goal.returns-else-finite
unfolding inputs_finite
returns-else-finite c = grind arith
