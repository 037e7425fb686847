-- `sum` meets its contract. The loop's invariant is `Summing`.
use Rattle.confirming.proofs.QuickLaws.{summing-first, sum_fits, summing-more, summing-done}
use borrow.Author.Rules.{rules}
use Rattle.confirming.proofs.quick.sum.Goals as goal

pub loop-order-init : goal.loop-order-init
loop-order-init c = search summing-first

pub overflow_add-sum : goal.overflow_add-sum
overflow_add-sum c = record { fits = search sum_fits }

pub loop-order-preserved : goal.loop-order-preserved
loop-order-preserved c = search summing-more

pub returns : goal.returns
returns c = search (summing-done, rules)
