-- `lay` meets its contract, a law for each answer. Assumes nothing.
use Rattle.importing.proofs.Laying.{lay-beyond, lay-full, lay-room, lay-told}
use Rattle.importing.proofs.lay.Goals as goal

pub returns-then-out-start : goal.returns-then-out-start
returns-then-out-start c = rw c.refused.ensures (lay-beyond _ _ _ _ _ c.requires c.if-out-start.true)

pub returns-then-out-start-2 : goal.returns-then-out-start-2
returns-then-out-start-2 c = rw c.refused-then-out-start-2.ensures (lay-full _ _ _ _ _ c.requires c.if-out-start.false c.if-out-start-2.true)

pub put_roll-requires : goal.put_roll-requires
put_roll-requires c = lay-room _ _ _ _ _ c.requires c.if-out-start.false c.if-out-start-2.false

pub returns : goal.returns
returns c = lay-told _ _ _ _ _ _ c.requires c.if-out-start.false c.if-out-start-2.false c.put_roll.ensures
