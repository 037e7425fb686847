-- `held_terms` meets its contract: the walk, then what follows the last term.
use Rattle.expansion.proofs.AgainstLaws.{terms-apt, terms-differ, terms-follow, terms-same}
use Rattle.expansion.proofs.holding.held_terms.Goals as goal

pub match_node-requires : goal.match_node-requires
match_node-requires c = search terms-apt

pub returns-then-state-ne0 : goal.returns-then-state-ne0
returns-then-state-ne0 c = search terms-differ

pub returns-then-place-roll : goal.returns-then-place-roll
returns-then-place-roll c = search terms-follow

pub returns : goal.returns
returns c = search terms-same
