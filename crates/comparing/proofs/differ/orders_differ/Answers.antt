-- `orders_differ` meets its contract: the orders that are used, beside each other. Assumes nothing.
use Rattle.comparing.proofs.DifferLaws.{used-few, orders-other}
use Rattle.comparing.proofs.differ.orders_differ.Goals as goal

pub slice_bounds-ne-end : goal.slice_bounds-ne-end
slice_bounds-ne-end c = search used-few

pub slice_bounds-ne-end-2 : goal.slice_bounds-ne-end-2
slice_bounds-ne-end-2 c = search used-few

pub returns : goal.returns
returns c = search orders-other
