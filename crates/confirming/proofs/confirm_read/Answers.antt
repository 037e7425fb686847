-- `confirm_read` meets its contract: the judge, then the request's roll. Assumes nothing.
use borrow.Author.Rules.{rules}
use Rattle.std.proofs.lemmas.Result.{err_from_is_err_and}
use Rattle.confirming.proofs.ConfirmLaws.{read-refused, read-same, read-differs, read-many}
use Rattle.confirming.proofs.confirm_read.Goals as goal

pub returns-in_err-opened : goal.returns-in_err-opened
returns-in_err-opened c = search (rules, read-refused)

pub returns-in_err-held : goal.returns-in_err-held
returns-in_err-held c =
    let p = err_from_is_err_and c.from_residual-in_err-held.result c.from_residual-in_err-held.ensures.1 in
    rw (p.1, p.2) (read-many _ _ _ c.judged.ensures c.type_inv.roll _ c.in_ok-opened.was _ c.held.ensures _ c.in_err-held.was)

pub returns-in-Same : goal.returns-in-Same
returns-in-Same c = search (rules, read-same, c.type_inv.roll)

pub returns-in-Differs : goal.returns-in-Differs
returns-in-Differs c = search (rules, read-differs, c.type_inv.roll)
