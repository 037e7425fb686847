-- `alike` meets its contract. The loop's invariant is `Beside`: so many are shared, and those behind them. Assumes nothing.
use Rattle.form2.proofs.ShorterLaws.{beside-more, beside-differ, beside-done}
use Rattle.form2.proofs.shorter.alike.Goals as goal

pub returns-then-roll-a : goal.returns-then-roll-a
returns-then-roll-a c = search beside-differ

pub loop-i-preserved : goal.loop-i-preserved
loop-i-preserved c = search beside-more

pub returns : goal.returns
returns c = search beside-done
