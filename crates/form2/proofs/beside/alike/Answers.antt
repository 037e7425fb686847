-- `alike` meets its contract. The loop's invariant is `Beside`: so many are shared, and those behind them. Assumes nothing.
use Rattle.form2.proofs.BesideLaws.{beside-more, beside-differ, beside-done}
use Rattle.form2.proofs.beside.alike.Goals as goal

pub returns-then-a-i : goal.returns-then-a-i
returns-then-a-i c = search beside-differ

pub loop-i-preserved : goal.loop-i-preserved
loop-i-preserved c = search beside-more

pub returns : goal.returns
returns c = search beside-done
