-- `next` meets its contract: what is gone over, what is told, and a refusal of a side. Assumes nothing.
use Rattle.std.proofs.lemmas.Result.{err_from_is_err_and}
use Rattle.comparing.proofs.PairLaws.{over_less, over_more, going_told, going-refused-left, going-refused-right}
use Rattle.comparing.proofs.pair.Pair.next.Goals as goal

pub returns-in_err-l : goal.returns-in_err-l
returns-in_err-l c =
    let p = err_from_is_err_and c.from_residual.result c.from_residual.ensures.1 in
    rw (p.1, p.2) (going-refused-left _ _ _ _ _ _ c.loop-l.invariant c.step.ensures c.in_err-l.was)

pub returns-in_err-r : goal.returns-in_err-r
returns-in_err-r c =
    let p = err_from_is_err_and c.from_residual-in_err-r.result c.from_residual-in_err-r.ensures.1 in
    rw (p.1, p.2) (going-refused-right _ _ _ _ _ _ _ _ c.loop-l.invariant c.step.ensures c.in_ok-l.was c.step-in-loop-l.ensures c.in_err-r.was)

pub loop-l-smaller : goal.loop-l-smaller
loop-l-smaller c = over_less _ _ c.args.self c.loop-l.at _ _ _ _ c.step.ensures c.in_ok-l.was c.step-in-loop-l.ensures c.in_ok-r.was _ _ c.behind.ensures c.in-Some.is

pub loop-l-preserved : goal.loop-l-preserved
loop-l-preserved c = over_more _ _ _ _ _ _ _ _ c.step.ensures c.in_ok-l.was c.step-in-loop-l.ensures c.in_ok-r.was _ _ c.loop-l.invariant c.behind.ensures c.in-Some.is

pub returns-in-None : goal.returns-in-None
returns-in-None c = going_told _ _ _ _ _ _ _ _ c.loop-l.invariant c.step.ensures c.in_ok-l.was c.step-in-loop-l.ensures c.in_ok-r.was _ c.behind.ensures c.in-None.is _ c.position.ensures
