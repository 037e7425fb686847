-- `boys` meets its contract: the Boys order, then the prefactors. Assumes nothing.
use Rattle.importing.proofs.Numbers.{table-some, table_fits, boys-made, boys-wrong}
use Rattle.importing.proofs.numerals.boys.Goals as goal

pub overflow_cast-table : goal.overflow_cast-table
overflow_cast-table c = record { fits = search table_fits }

pub overflow_sub-table : goal.overflow_sub-table
overflow_sub-table c = search table-some

pub returns : goal.returns
returns c = boys-made _ _ _ _ _ _ _ _ _ _ _ _ c.most_boys.ensures c.within.ensures c.in_ok-next.was c.table.ensures c.each.ensures

pub returns-in_err-next : goal.returns-in_err-next
returns-in_err-next c = rw c.from_residual.ensures (boys-wrong _ _ _ _ _ _ _ _ c.most_boys.ensures c.within.ensures c.in_err-next.was)
