-- `finite` meets its contract: std's test has the same cases. Assumes nothing.
use borrow.Author.Rules.{rules}
use Rattle.std.specs.Float.{float_is_finite}
use Rattle.geometry.proofs.finite.Goals as goal

pub returns : goal.returns
unfolding float_is_finite
returns c = search rules
