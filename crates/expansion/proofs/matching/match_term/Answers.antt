-- `match_term` meets its contract: nothing more once a byte differed, else one term further.
use Rattle.expansion.proofs.MatchTerms.{earlier-few, place_inside, match-stays, match-one}
use Rattle.expansion.proofs.matching.match_term.Goals as goal

pub returns-then-state-ne0 : goal.returns-then-state-ne0
returns-then-state-ne0 c = search match-stays

pub beside_term-beside-requires : goal.beside_term-beside-requires
beside_term-beside-requires c = (search, search, search, search earlier-few, search place_inside)

pub further_on-place-requires : goal.further_on-place-requires
further_on-place-requires c = search

pub returns : goal.returns
returns c = search match-one
