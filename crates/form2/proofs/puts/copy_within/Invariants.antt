-- `copy_within` meets its contract. The loop's invariant is `Copying`: the first so many bytes stand there. Assumes nothing.
use lib.ListN.{take, drop}
use Rattle.form2.proofs.PutsLaws.{Copying}
use Rattle.form2.proofs.puts.copy_within.Given as goal

abbrev pub invariant-loop-i : goal.invariant-loop-i
invariant-loop-i l = Copying l.initial.out l.at (take l.count (drop l.from l.initial.out)) l.out l.i
