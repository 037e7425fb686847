-- `exponents_above_zero` meets its contract: each arm is the definition at its kinds. Assumes nothing.
use Rattle.std.proofs.Common.{rules, arith}
use Rattle.geometry.specs.Checks.{exponents, exponents_above_zero}
use Rattle.geometry.proofs.exponents_above_zero.Goals as goal

pub returns-in-Coulomb : goal.returns-in-Coulomb
unfolding exponents_above_zero exponents
returns-in-Coulomb c = search rules

pub returns-in_default : goal.returns-in_default
unfolding exponents_above_zero exponents
returns-in_default c = grind arith
