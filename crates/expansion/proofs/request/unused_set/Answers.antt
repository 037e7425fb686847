-- `unused_set` meets its contract.
use Rattle.expansion.proofs.RequestLaws.{set_at}
use Rattle.expansion.proofs.request.unused_set.Goals as goal

pub returns : goal.returns
returns c = search set_at
