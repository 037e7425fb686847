-- `coulomb_term` meets its contract. Assumes nothing.
use Rattle.integrals.proofs.SumsLaws.{own-order}
use Rattle.integrals.proofs.sums.coulomb_term.Goals as goal

pub returns : goal.returns
returns c = search own-order
