-- `pair_finite` meets its contract: one part, then the other. Assumes nothing.
use Rattle.std.proofs.Common.{arith}
use Rattle.geometry.proofs.FiniteFloats.{finite-both}
use Rattle.geometry.proofs.pair_finite.Goals as goal

pub returns-then-is_finite : goal.returns-then-is_finite
returns-then-is_finite c = grind (arith, finite-both)

pub returns-else-is_finite : goal.returns-else-is_finite
returns-else-is_finite c = grind (arith, finite-both)
