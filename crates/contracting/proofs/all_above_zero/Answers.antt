-- `all_above_zero` meets its contract: one function, then the other. Assumes nothing.
use Rattle.std.proofs.Common.{arith}
use Rattle.contracting.specs.inner.Summed.{all_above_of}
use Rattle.contracting.proofs.all_above_zero.Goals as goal

pub returns-then-primitives_above_zero : goal.returns-then-primitives_above_zero
unfolding all_above_of
returns-then-primitives_above_zero c = grind arith

pub returns-else-primitives_above_zero : goal.returns-else-primitives_above_zero
unfolding all_above_of
returns-else-primitives_above_zero c = grind arith
