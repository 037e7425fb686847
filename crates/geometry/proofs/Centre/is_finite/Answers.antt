-- `is_finite` meets its contract: the floats of the definition. Assumes nothing.
use Rattle.geometry.specs.Checks.{whole}
use borrow.Author.Rules.{rules}
use Rattle.geometry.proofs.Centre.is_finite.Goals as goal

pub returns : goal.returns
unfolding whole
returns c = search rules
