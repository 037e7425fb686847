-- `put_orders` meets its contract.
use native.Mathlib.Omega.{arith}
use Rattle.expansion.proofs.HeaderLaws.{ordering-first, ordering-more, ordering-last, ordering-length}
use Rattle.expansion.proofs.header.put_orders.Goals as goal

pub loop-i-init : goal.loop-i-init
loop-i-init c = search ordering-first

pub bounds-out-i : goal.bounds-out-i
bounds-out-i c = omega (arith, ordering-length _ _ _ _ _ c.loop-i.invariant)

pub loop-i-preserved : goal.loop-i-preserved
loop-i-preserved c = search ordering-more

pub shape_of-out : goal.shape_of-out
shape_of-out c = search ordering-length

pub returns : goal.returns
returns c = search ordering-last
