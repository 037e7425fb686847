-- `add_term` meets its contract. Assumes nothing.
use Rattle.integrals.proofs.SumsLaws.{added_term}
use Rattle.integrals.proofs.sums.add_term.Goals as goal

pub returns : goal.returns
returns c = search added_term
