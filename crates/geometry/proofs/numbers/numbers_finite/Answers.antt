-- `numbers_finite` meets its contract: each arm is the definition at its kinds. Assumes nothing.
use Rattle.std.proofs.Common.{rules, arith}
use Rattle.geometry.specs.Geometry.{geometry_numbers}
use Rattle.geometry.proofs.numbers.numbers_finite.Goals as goal

pub returns-in-Overlap : goal.returns-in-Overlap
unfolding geometry_numbers
returns-in-Overlap c = grind arith

pub returns-in-Nuclear : goal.returns-in-Nuclear
unfolding geometry_numbers
returns-in-Nuclear c = search rules

pub returns-in-Moment : goal.returns-in-Moment
unfolding geometry_numbers
returns-in-Moment c = search rules

pub returns-in-Coulomb : goal.returns-in-Coulomb
unfolding geometry_numbers
returns-in-Coulomb c = rw c.in-Coulomb.is (rw c.coulomb_numbers.ensures at c.all_finite-in-Coulomb.ensures)
