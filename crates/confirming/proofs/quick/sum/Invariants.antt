-- `sum` meets its contract. The loop's invariant is `Summing`.
use Rattle.confirming.proofs.QuickLaws.{Summing}
use Rattle.confirming.proofs.quick.sum.Given as goal

abbrev pub invariant-loop-order : goal.invariant-loop-order
invariant-loop-order l = Summing l.fn.orders l.order-index l.sum
