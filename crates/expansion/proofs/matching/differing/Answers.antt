-- `differing` meets its contract.
use Rattle.expansion.proofs.MatchLaws.{none_differ, some-differ}
use Rattle.expansion.proofs.matching.differing.Goals as goal

pub returns-then-same-all : goal.returns-then-same-all
returns-then-same-all c = search none_differ

pub returns : goal.returns
returns c = search some-differ
