-- `is_above_zero` meets its contract: the test of the definition. Assumes nothing.
use borrow.Author.Rules.{rules}
use Rattle.contracting.specs.inner.Summed.{above_primitive}
use Rattle.contracting.proofs.Primitive.is_above_zero.Goals as goal

pub returns : goal.returns
unfolding above_primitive
returns c = search rules
