-- `put_further` meets its contract.
use Rattle.expansion.proofs.FurtherBytes.{further-few, further-late, further-both}
use Rattle.expansion.proofs.further.put_further.Goals as goal

pub returns-then-count-le12 : goal.returns-then-count-le12
returns-then-count-le12 c = search further-few

pub returns-then-same-ge12 : goal.returns-then-same-ge12
returns-then-same-ge12 c = search further-late

pub returns : goal.returns
returns c = search further-both
