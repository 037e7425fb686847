-- `primitives_finite` meets its contract: each primitive is looked at. Assumes nothing.
use borrow.Author.Rules.{rules}
use borrow.Author.Tests.{tests}
use Rattle.std.proofs.lemmas.Iterator.{YieldsList-from_slice}
use Rattle.std.proofs.lemmas.Iterator.Search.{all_from_yields_List}
use Rattle.contracting.specs.inner.Summed.{finite_primitive}
use Rattle.contracting.proofs.primitives_finite.Goals as goal

pub returns : goal.returns
returns c = all_from_yields_List finite_primitive _ _ _ c.all.ensures.ran (YieldsList-from_slice c.args.primitives.now cc) (λ x b q k. search (rules, tests))
