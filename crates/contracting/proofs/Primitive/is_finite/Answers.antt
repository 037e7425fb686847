-- `is_finite` meets its contract: the floats of the definition. Assumes nothing.
use borrow.Author.Rules.{rules}
use Rattle.geometry.specs.Checks.{whole}
use Rattle.contracting.specs.inner.Summed.{finite_primitive}
use Rattle.contracting.proofs.Primitive.is_finite.Goals as goal

pub returns : goal.returns
unfolding finite_primitive whole
returns c = search rules
