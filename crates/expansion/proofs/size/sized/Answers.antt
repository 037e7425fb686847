-- `sized` meets its contract.
use Rattle.expansion.proofs.Answers.{first-measured, roll-fits, sized-many, sized-roll}
use Rattle.expansion.proofs.size.sized.Goals as goal

pub measure_node-requires : goal.measure_node-requires
measure_node-requires c = search first-measured

pub returns-in_default : goal.returns-in_default
returns-in_default c = search sized-many

pub overflow_add-length : goal.overflow_add-length
overflow_add-length c = record { fits = search roll-fits }

pub returns : goal.returns
returns c = search sized-roll
