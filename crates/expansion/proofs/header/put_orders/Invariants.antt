-- `put_orders` meets its contract.
use Rattle.expansion.proofs.HeaderLaws.{Ordering}
use Rattle.expansion.proofs.header.put_orders.Given as goal

abbrev pub invariant-loop-i : goal.invariant-loop-i
invariant-loop-i l = Ordering l.initial.out l.orders l.count l.out l.i
