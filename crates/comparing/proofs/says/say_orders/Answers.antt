-- `say_orders` meets its contract: three pieces, or nothing. Assumes nothing.
use Rattle.comparing.proofs.SaysLaws.{orders-said, orders-none}
use Rattle.comparing.proofs.says.say_orders.Goals as goal

pub returns-then-on : goal.returns-then-on
returns-then-on c = search orders-said

pub returns : goal.returns
returns c = search orders-none
