-- `shared_with` meets its contract.
use Rattle.expansion.proofs.FurtherWords.{other-long, both-short}
use Rattle.expansion.proofs.further.shared_with.Goals as goal

pub returns-then-count-gt12 : goal.returns-then-count-gt12
returns-then-count-gt12 c = search other-long

pub returns : goal.returns
returns c = search both-short
