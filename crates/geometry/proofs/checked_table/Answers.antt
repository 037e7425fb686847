-- `checked_table` meets its contract: the checks in their order. Assumes nothing.
use Rattle.std.proofs.Common.{arith}
use Rattle.laws.specs.Unless.{unless}
use Rattle.geometry.specs.Checks.{checked_table}
use Rattle.geometry.proofs.Checks.{finite-table}
use Rattle.geometry.proofs.checked_table.Goals as goal

pub returns-then-not-used_finite : goal.returns-then-not-used_finite
unfolding checked_table unless
returns-then-not-used_finite c = grind arith

pub returns-then-not-exponents_above_zero : goal.returns-then-not-exponents_above_zero
unfolding checked_table unless
returns-then-not-exponents_above_zero c = grind arith

pub returns-then-not-geometry_finite : goal.returns-then-not-geometry_finite
unfolding checked_table unless
returns-then-not-geometry_finite c =
    let all = finite-table _ _ _ _ _ _ _ c.prefac-entries.ensures c.geometry_finite.ensures in
    grind (arith, all)

pub returns : goal.returns
unfolding checked_table unless
returns c =
    let all = finite-table _ _ _ _ _ _ _ c.prefac-entries.ensures c.geometry_finite.ensures in
    grind (arith, all)
