-- `alike` meets its contract. The loop's invariant is `Beside`: so many are shared, and those behind them. Assumes nothing.
use Rattle.form2.proofs.ShorterLaws.{Beside}
use Rattle.form2.proofs.shorter.alike.Given as goal

abbrev pub invariant-loop-i : goal.invariant-loop-i
invariant-loop-i l = Beside l.roll l.a l.b l.c l.d l.most l.i
