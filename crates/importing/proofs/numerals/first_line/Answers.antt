-- `first_line` meets its contract, a law for each answer. Assumes nothing.
use Rattle.importing.proofs.Numbers.{kind-byte, orders-more, first_made, first-other, first-unknown, first-wrong}
use Rattle.importing.proofs.numerals.first_line.Goals as goal

pub overflow_cast-number-2 : goal.overflow_cast-number-2
overflow_cast-number-2 c = record { fits = kind-byte _ _ _ _ _ _ c.within.ensures c.in_ok-number.was c.number.ensures }

pub overflow_add-orders : goal.overflow_add-orders
overflow_add-orders c = record { fits = search orders-more }

pub returns-then-n-orders : goal.returns-then-n-orders
returns-then-n-orders c = first-other _ _ _ _ _ _ _ _ _ c.number.ensures c.within.ensures c.in_ok-number.was c.of.ensures c.in_ok-kind.was c.orders.ensures c.if-n-orders.true

pub returns : goal.returns
returns c = first_made _ _ _ _ _ _ _ _ _ _ c.number.ensures c.within.ensures c.in_ok-number.was c.of.ensures c.in_ok-kind.was c.orders.ensures c.if-n-orders.false c.head_orders.ensures

pub returns-in_err-kind : goal.returns-in_err-kind
returns-in_err-kind c = rw c.from_residual-in_err-kind.ensures (first-unknown _ _ _ _ _ _ _ c.number.ensures c.within.ensures c.in_ok-number.was c.of.ensures c.in_err-kind.was)

pub returns-in_err-number : goal.returns-in_err-number
returns-in_err-number c = rw c.from_residual.ensures (first-wrong _ _ _ _ c.number.ensures c.within.ensures c.in_err-number.was)
