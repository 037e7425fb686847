-- `each` meets its contract: what is left says what the whole says. Assumes nothing.
use Rattle.importing.proofs.Numbers.{each_more, each-wrong, each-done}
use Rattle.importing.proofs.numerals.each.Goals as goal

pub returns-in_err-next : goal.returns-in_err-next
returns-in_err-next c = rw c.from_residual.ensures (each-wrong _ _ _ _ _ _ _ _ c.loop-done.invariant c.loop-done-test.true c.within.ensures c.in_err-next.was)

pub loop-done-preserved : goal.loop-done-preserved
loop-done-preserved c = each_more _ _ _ _ _ _ _ _ _ _ c.loop-done.invariant c.loop-done-test.true c.within.ensures c.in_ok-next.was

pub returns : goal.returns
returns c = search each-done
