-- `head_orders` meets its contract: the orders, then the count. Assumes nothing.
use Rattle.importing.proofs.Numbers.{orders-room, l-byte, head-made, head-uncounted, head-unordered}
use Rattle.importing.proofs.numerals.head_orders.Goals as goal

pub orders-requires-2 : goal.orders-requires-2
orders-requires-2 c = search orders-room

pub overflow_cast-result : goal.overflow_cast-result
overflow_cast-result c = record { fits = l-byte _ _ _ _ _ _ _ c.orders.ensures c.orders-2.ensures c.in_ok-l.was }

pub returns : goal.returns
returns c = head-made _ _ _ _ _ _ _ _ _ _ c.orders.ensures c.orders-2.ensures c.in_ok-l.was c.within.ensures c.in_ok-terms.was

pub returns-in_err-terms : goal.returns-in_err-terms
returns-in_err-terms c = rw c.from_residual-in_err-terms.ensures (head-uncounted _ _ _ _ _ _ _ _ c.orders.ensures c.orders-2.ensures c.in_ok-l.was c.within.ensures c.in_err-terms.was)

pub returns-in_err-l : goal.returns-in_err-l
returns-in_err-l c = rw c.from_residual.ensures (head-unordered _ _ _ _ _ c.orders.ensures c.orders-2.ensures c.in_err-l.was)
