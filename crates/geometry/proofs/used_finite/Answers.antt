-- `used_finite` meets its contract: each arm is the definition at its kinds. Assumes nothing.
use Rattle.std.proofs.Common.{arith}
use Rattle.geometry.specs.Checks.{used, used_finite}
use Rattle.geometry.proofs.FiniteFloats.{finite-both}
use Rattle.geometry.proofs.used_finite.Goals as goal

pub returns-in-Overlap : goal.returns-in-Overlap
unfolding used_finite used
returns-in-Overlap c = grind arith

pub returns-then-pair_finite : goal.returns-then-pair_finite
unfolding used_finite used
returns-then-pair_finite c = grind (arith, finite-both)

pub returns-else-pair_finite : goal.returns-else-pair_finite
unfolding used_finite used
returns-else-pair_finite c = grind (arith, finite-both)

pub returns-then-pair_finite-2 : goal.returns-then-pair_finite-2
unfolding used_finite used
returns-then-pair_finite-2 c = grind (arith, finite-both)

pub returns-else-pair_finite-2 : goal.returns-else-pair_finite-2
unfolding used_finite used
returns-else-pair_finite-2 c = grind (arith, finite-both)
