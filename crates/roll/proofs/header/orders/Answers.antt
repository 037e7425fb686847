-- `orders` meets its contract: a law for each way out. Assumes nothing.
use borrow.Author.Rules.{rules}
use native.Mathlib.Omega.{arith}
use Rattle.roll.proofs.HeaderLaws.{ordering-none, ordering-more, ordering-refused, ordering-done, ordering-sum, ordering-fits}
use Rattle.roll.proofs.header.orders.Goals as goal

pub loop-i-init : goal.loop-i-init
loop-i-init c = search ordering-none

pub returns-in_err-order : goal.returns-in_err-order
returns-in_err-order c = search (rules, ordering-refused)

pub overflow_cast-values : goal.overflow_cast-values
overflow_cast-values c = omega (arith, ordering-sum _ _ _ _ _ _ _ _ _ _ _ c.loop-i.invariant c.loop-i-test.true c.within.ensures c.in_ok-order.was)

pub sum_after-sum-requires : goal.sum_after-sum-requires
sum_after-sum-requires c = search (rules, ordering-sum)

pub overflow_add-l : goal.overflow_add-l
overflow_add-l c = omega (arith, ordering-fits _ _ _ _ _ _ _ _ _ _ _ c.loop-i.invariant c.loop-i-test.true c.within.ensures c.in_ok-order.was)

pub loop-i-preserved : goal.loop-i-preserved
loop-i-preserved c = ordering-more _ _ _ _ _ _ _ _ _ _ _ _ c.loop-i.invariant c.loop-i-test.true c.within.ensures c.in_ok-order.was c.sum_after-sum.ensures

pub returns : goal.returns
returns c = search ordering-done
