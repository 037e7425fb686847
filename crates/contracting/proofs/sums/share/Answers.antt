-- `share` meets its contract: the products in their order. Assumes nothing.
use Rattle.contracting.proofs.SumLaws.{shared}
use Rattle.contracting.proofs.sums.share.Goals as goal

pub returns : goal.returns
returns c = search shared
