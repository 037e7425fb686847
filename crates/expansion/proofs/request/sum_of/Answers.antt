-- `sum_of` meets its contract.
use Rattle.expansion.proofs.RequestLaws.{sum-at}
use Rattle.expansion.proofs.request.sum_of.Goals as goal

pub returns-in-A : goal.returns-in-A
returns-in-A c = search sum-at

pub returns-in-B : goal.returns-in-B
returns-in-B c = search sum-at

pub returns-in-C : goal.returns-in-C
returns-in-C c = search sum-at

pub returns-in-D : goal.returns-in-D
returns-in-D c = search sum-at
