-- `is_above` meets its contract.
use Rattle.expansion.proofs.RequestLaws.{sum-exceeds}
use Rattle.expansion.proofs.request.is_above.Goals as goal

pub returns : goal.returns
returns c = search sum-exceeds
