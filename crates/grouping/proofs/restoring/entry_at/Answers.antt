-- `entry_at` meets its contract: behind its number a cursor with one term left gives the term. Assumes nothing.
use Rattle.std.proofs.lemmas.Result.{err_from_is_err_and}
use Rattle.grouping.proofs.RestoringLaws.{entry-unread, entry-cut, entry-some, entry_read}
use Rattle.grouping.proofs.restoring.entry_at.Goals as goal

pub returns-in_err-number : goal.returns-in_err-number
returns-in_err-number c =
    let p = err_from_is_err_and c.from_residual.result c.from_residual.ensures.1 in
    rw (p.1, p.2) (entry-unread _ _ _ _ _ c.within.ensures _ c.in_err-number.was)

pub returns-in_err-next : goal.returns-in_err-next
returns-in_err-next c =
    let p = err_from_is_err_and c.from_residual-in_err-next.result c.from_residual-in_err-next.ensures.1 in
    rw (p.1, p.2) (entry-cut _ _ _ _ _ c.within.ensures _ _ _ _ c.in_ok-number.was c.number.ensures c.next.ensures c.requires _ c.in_err-next.was)

pub unwrap-step-requires : goal.unwrap-step-requires
unwrap-step-requires c = entry-some _ _ _ _ _ c.within.ensures _ _ _ _ c.in_ok-number.was c.number.ensures c.next.ensures c.requires _ c.in_ok-next.was

pub returns : goal.returns
returns c = entry_read _ _ _ _ _ c.within.ensures _ _ _ _ c.in_ok-number.was c.number.ensures c.next.ensures c.requires _ _ c.in_ok-next.was c.unwrap-step.ensures
