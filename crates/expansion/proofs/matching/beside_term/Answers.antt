-- `beside_term` meets its contract: its bytes are put aside and held against those at the place.
use borrow.Author.Rules.{rules}
use Rattle.expansion.proofs.MatchTerms.{all-fits, all-counted, beside-told}
use Rattle.expansion.proofs.matching.beside_term.Goals as goal

pub put_alone-all-requires : goal.put_alone-all-requires
put_alone-all-requires c = (search, search, search, search, search rules)

pub slice_bounds-bytes-end : goal.slice_bounds-bytes-end
slice_bounds-bytes-end c = search (all-fits, rules)

pub slice_bounds-alike-end-2 : goal.slice_bounds-alike-end-2
slice_bounds-alike-end-2 c = search (all-counted, rules)

pub returns : goal.returns
returns c = search (beside-told, rules)
