-- `all_above_zero` meets its contract: each float is looked at. Assumes nothing.
use borrow.Author.Rules.{rules}
use borrow.Author.Tests.{tests}
use Rattle.std.proofs.lemmas.Iterator.{YieldsList-from_slice}
use Rattle.std.proofs.lemmas.Iterator.Search.{all_from_yields_List}
use Rattle.geometry.specs.Floats.{above_zero, all_above_zero}
use Rattle.geometry.proofs.all_above_zero.Goals as goal

pub returns : goal.returns
unfolding all_above_zero
returns c = all_from_yields_List above_zero _ _ _ c.all.ensures.ran (YieldsList-from_slice c.args.xs.now cc) (λ x b q k. search (rules, tests))
