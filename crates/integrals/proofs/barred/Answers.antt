-- `barred` meets its contract: the checks in their order. Assumes nothing.
use Rattle.std.proofs.Common.{arith}
use Rattle.laws.specs.Unless.{unless}
use Rattle.integrals.specs.inner.Barred.{bars_with}
use Rattle.integrals.proofs.barred.Goals as goal

pub returns-then-not-inputs_finite : goal.returns-then-not-inputs_finite
unfolding bars_with unless
returns-then-not-inputs_finite c = grind arith

pub returns-then-not-exponents_above_zero : goal.returns-then-not-exponents_above_zero
unfolding bars_with unless
returns-then-not-exponents_above_zero c = grind arith

pub returns-then-not-boys_counted : goal.returns-then-not-boys_counted
unfolding bars_with unless
returns-then-not-boys_counted c = grind arith

pub returns-then-not-geometry_finite : goal.returns-then-not-geometry_finite
unfolding bars_with unless
returns-then-not-geometry_finite c = grind arith

pub returns : goal.returns
unfolding bars_with unless
returns c = grind arith
