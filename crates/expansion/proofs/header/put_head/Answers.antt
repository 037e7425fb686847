-- `put_head` meets its contract.
use Rattle.expansion.proofs.HeaderLaws.{orders-add, kept-through, head-inside, first_fits, orders-few, orders-room, count_fits, head-put}
use Rattle.expansion.proofs.header.put_head.Goals as goal

pub overflow_add-out : goal.overflow_add-out
overflow_add-out c = record { fits = search first_fits }

pub bounds-out-0 : goal.bounds-out-0
bounds-out-0 c = search head-inside

pub put_orders-requires : goal.put_orders-requires
put_orders-requires c = (search orders-few, search orders-room)

pub overflow_add-count : goal.overflow_add-count
overflow_add-count c = record { fits = search orders-add }

pub put_number-requires : goal.put_number-requires
put_number-requires c = search count_fits

pub shape_of-out : goal.shape_of-out
shape_of-out c = search kept-through

pub returns : goal.returns
returns c = search head-put
