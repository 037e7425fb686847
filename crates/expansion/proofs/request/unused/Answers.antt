-- `unused` meets its contract.
use Rattle.expansion.proofs.RequestLaws.{unused-of-two, unused-moment, unused-coulomb}
use Rattle.expansion.proofs.request.unused.Goals as goal

pub returns-in-Overlap : goal.returns-in-Overlap
returns-in-Overlap c = search unused-of-two

pub returns-in-Moment : goal.returns-in-Moment
returns-in-Moment c = search unused-moment

pub returns-in-Coulomb : goal.returns-in-Coulomb
returns-in-Coulomb c = search unused-coulomb
