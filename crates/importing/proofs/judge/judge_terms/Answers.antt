-- `judge_terms` meets its contract: what is left says what the whole says. Assumes nothing.
use Rattle.importing.proofs.Judging.{lines-first, lines-size, lines_more, lines-refused, lines-done}
use Rattle.importing.proofs.judge.judge_terms.Goals as goal

pub loop-line-init : goal.loop-line-init
loop-line-init c = search lines-first

pub overflow_add-size : goal.overflow_add-size
overflow_add-size c = record { fits = search lines-size }

pub returns-in-Err : goal.returns-in-Err
returns-in-Err c = rw c.refused.ensures (search lines-refused)

pub loop-line-preserved : goal.loop-line-preserved
loop-line-preserved c = search lines_more

pub returns : goal.returns
returns c = lines-done _ _ _ _ _ _ _ _ _ _ _ c.loop-line.invariant c.loop-line-test.false c.end.ensures
