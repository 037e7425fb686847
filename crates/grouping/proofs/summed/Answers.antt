-- `summed` meets its contract: the checks bar the sum, or leave its table. Assumes nothing.
use borrow.Author.Rules.{rules}
use Rattle.std.proofs.lemmas.Result.{err_from_is_err_and}
use Rattle.grouping.proofs.GroupedLaws.{summed-barred, summed-passed}
use Rattle.grouping.proofs.summed.Goals as goal

pub returns-in_err-barred : goal.returns-in_err-barred
returns-in_err-barred c =
    let p = err_from_is_err_and c.from_residual.result c.from_residual.ensures.1 in
    rw (p.1, p.2) (summed-barred _ _ _ _ _ _ c.prefac-table.ensures c.barred.ensures _ c.in_err-barred.was)

pub returns : goal.returns
returns c = search (rules, summed-passed)
