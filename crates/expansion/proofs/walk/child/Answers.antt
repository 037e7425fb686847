-- `child` meets its contract.
use Rattle.expansion.proofs.WalkChildren.{child-moves, child-held, child-of}
use Rattle.expansion.proofs.walk.child.Goals as goal

pub moved-on-requires : goal.moved-on-requires
moved-on-requires c = search child-moves

pub overflow_sub-below : goal.overflow_sub-below
overflow_sub-below c = search child-held

pub returns : goal.returns
returns c = search child-of
