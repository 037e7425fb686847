-- `restore` meets its contract: what is left of the entries gives the whole answer. Assumes nothing.
use Rattle.std.proofs.lemmas.Result.{err_from_is_err_and}
use Rattle.grouping.proofs.RestoringLaws.{restore-first, restore-refused, restore-more, restore-done}
use Rattle.grouping.proofs.restoring.restore.Goals as goal

pub loop-done-init : goal.loop-done-init
loop-done-init c = restore-first _ _ _ _ _ c.none_passed-passed.ensures

pub returns-in_err-entry : goal.returns-in_err-entry
returns-in_err-entry c =
    let p = err_from_is_err_and c.from_residual.result c.from_residual.ensures.1 in
    rw (p.1, p.2) (restore-refused _ _ _ _ _ _ _ _ _ _ c.loop-done-test.true c.next_at.ensures c.loop-done.invariant c.in_err-entry.was)

pub loop-done-preserved : goal.loop-done-preserved
loop-done-preserved c = restore-more _ _ _ _ _ _ _ _ _ _ _ c.loop-done-test.true c.next_at.ensures c.in_ok-entry.was c.passed_on-passed.ensures c.loop-done.invariant

pub returns : goal.returns
returns c = search restore-done
