-- `confirm_named` meets its contract: where the request's roll is the same its header is told, else the roll is read. Assumes nothing.
use Rattle.confirming.proofs.QuickLaws.{orders-most}
use Rattle.confirming.proofs.ConfirmLaws.{quick-within, quick-same}
use borrow.Author.Rules.{rules}
use Rattle.confirming.proofs.confirm_named.Goals as goal

pub orders_in-orders-requires : goal.orders_in-orders-requires
orders_in-orders-requires c = (search orders-most, search rules)

pub opened_of-requires : goal.opened_of-requires
opened_of-requires c = search quick-within

pub returns-in-Ok-Same : goal.returns-in-Ok-Same
returns-in-Ok-Same c = search (quick-same, c.type_inv.roll)
