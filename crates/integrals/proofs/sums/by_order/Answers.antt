-- `by_order` meets its contract: what is left of the Boys orders gives the whole sum. Assumes nothing.
use Rattle.integrals.proofs.SumsLaws.{orders-more, orders-last}
use Rattle.integrals.proofs.sums.by_order.Goals as goal

pub loop-order-preserved : goal.loop-order-preserved
loop-order-preserved c = search orders-more

pub returns-2 : goal.returns-2
returns-2 c = search orders-last
