-- `all_finite` meets its contract: each float is looked at. Assumes nothing.
use borrow.Author.Rules.{rules}
use borrow.Author.Tests.{tests}
use lib.Ieee.Scale.{finite}
use Rattle.std.proofs.lemmas.Iterator.{YieldsList-from_slice}
use Rattle.std.proofs.lemmas.Iterator.Search.{all_from_yields_List}
use Rattle.geometry.specs.Floats.{all_finite}
use Rattle.geometry.proofs.all_finite.Goals as goal

pub returns : goal.returns
unfolding all_finite
returns c = all_from_yields_List finite _ _ _ c.all.ensures.ran (YieldsList-from_slice c.args.xs.now cc) (λ x b q k. search (rules, tests))
