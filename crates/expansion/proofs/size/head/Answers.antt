-- `head` meets its contract.
use Rattle.expansion.proofs.HeaderLaws.{orders-add, head-fits}
use Rattle.expansion.proofs.size.head.Goals as goal

pub overflow_add-result : goal.overflow_add-result
overflow_add-result c = record { fits = search orders-add }

pub overflow_add-result-2 : goal.overflow_add-result-2
overflow_add-result-2 c = record { fits = search head-fits }
