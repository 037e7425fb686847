-- `orders` meets its contract: what is left says what the whole says. Assumes nothing.
use Rattle.importing.proofs.Numbers.{ordering-first, ordering-more, ordering-sum, ordering-fits, ordering-wrong, ordering-done}
use Rattle.importing.proofs.numerals.orders.Goals as goal

pub loop-i-init : goal.loop-i-init
loop-i-init c = search ordering-first

pub sum_after-sum-requires : goal.sum_after-sum-requires
sum_after-sum-requires c = ordering-sum _ _ _ _ _ _ _ _ _ _ c.loop-i.invariant c.within.ensures c.in_ok-order.was

pub overflow_add-l : goal.overflow_add-l
overflow_add-l c = record { fits = ordering-fits _ _ _ _ _ _ _ _ _ _ c.requires c.loop-i.invariant c.within.ensures c.in_ok-order.was }

pub returns-in_err-order : goal.returns-in_err-order
returns-in_err-order c = rw c.from_residual.ensures (ordering-wrong _ _ _ _ _ _ _ _ c.loop-i.invariant c.loop-i-test.true c.within.ensures c.in_err-order.was)

pub loop-i-preserved : goal.loop-i-preserved
loop-i-preserved c = ordering-more _ _ _ _ _ _ _ _ _ _ _ c.loop-i.invariant c.loop-i-test.true c.within.ensures c.in_ok-order.was c.sum_after-sum.ensures

pub returns : goal.returns
returns c = search ordering-done
