-- `geometry_finite` meets its contract: the numbers, then the entries. Assumes nothing.
use Rattle.std.proofs.Common.{arith}
use Rattle.geometry.specs.Checks.{finite_with}
use Rattle.geometry.proofs.FiniteFloats.{finite-both}
use Rattle.geometry.proofs.geometry_finite.Goals as goal

pub returns-then-numbers_finite : goal.returns-then-numbers_finite
unfolding finite_with
returns-then-numbers_finite c = grind (arith, finite-both)

pub returns-else-numbers_finite : goal.returns-else-numbers_finite
unfolding finite_with
returns-else-numbers_finite c = grind (arith, finite-both)
