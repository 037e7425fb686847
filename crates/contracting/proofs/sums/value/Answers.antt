-- `value` meets its contract: the table bars the sum, or leaves it. Assumes nothing.
use Rattle.contracting.proofs.SumLaws.{value-kept, value_not}
use Rattle.contracting.proofs.sums.value.Goals as goal

pub returns-then-not-geometry_finite : goal.returns-then-not-geometry_finite
returns-then-not-geometry_finite c = search value_not

pub returns : goal.returns
returns c = search value-kept
