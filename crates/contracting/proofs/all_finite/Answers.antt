-- `all_finite` meets its contract: one part, then the next. Assumes nothing.
use Rattle.std.proofs.Common.{arith}
use Rattle.contracting.specs.inner.Summed.{all_finite_of}
use Rattle.contracting.proofs.all_finite.Goals as goal

pub returns-then-primitives_finite-2 : goal.returns-then-primitives_finite-2
unfolding all_finite_of
returns-then-primitives_finite-2 c = grind arith

pub returns-else-primitives_finite-2 : goal.returns-else-primitives_finite-2
unfolding all_finite_of
returns-else-primitives_finite-2 c = grind arith
