-- `put_roll` meets its contract.
use Rattle.expansion.proofs.HeaderLaws.{head-may, node-may, roll-put}
use Rattle.expansion.proofs.header.put_roll.Goals as goal

pub put_head-at-requires : goal.put_head-at-requires
put_head-at-requires c = search head-may

pub node-requires : goal.node-requires
node-requires c = search node-may

pub returns : goal.returns
returns c = search roll-put
