-- `judged` meets its contract: the charge, then the checks bar the sum, or leave its table. Assumes nothing.
use borrow.Author.Rules.{rules}
use Rattle.std.proofs.lemmas.Result.{err_from_is_err_and}
use Rattle.integrals.proofs.Values.{value-uncharged, value-barred, value-passed}
use Rattle.integrals.proofs.judged.Goals as goal

pub returns-then-not-charge_kept : goal.returns-then-not-charge_kept
returns-then-not-charge_kept c = search value-uncharged

pub returns-in_err-barred : goal.returns-in_err-barred
returns-in_err-barred c =
    let p = err_from_is_err_and c.from_residual.result c.from_residual.ensures.1 in
    rw (p.1, p.2) (value-barred _ _ _ _ _ _ _ _ _ _ c.charge_kept.ensures _ _ c.prefac-table.ensures c.barred.ensures c.if-not-charge_kept.false _ c.in_err-barred.was)

pub returns : goal.returns
returns c = search (rules, value-passed)
