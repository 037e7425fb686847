-- `terms2` meets its contract.
use Rattle.expansion.proofs.SizeLaws.{size-may, size-walked}
use Rattle.expansion.proofs.size.terms2.Goals as goal

pub node-requires : goal.node-requires
node-requires c = search size-may

pub returns : goal.returns
returns c = search size-walked
