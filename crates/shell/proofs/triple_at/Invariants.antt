-- `triple_at` meets its contract. The loop's invariant is `Rowed`: where the row begins, and that no later row is the number's. Assumes nothing.
use Rattle.shell.proofs.Places.{Rowed}
use Rattle.shell.proofs.triple_at.Given as goal

abbrev pub invariant-loop-begins : goal.invariant-loop-begins
invariant-loop-begins l = Rowed l.m l.number l.row l.begins

abbrev pub decreases-loop-begins : goal.decreases-loop-begins
decreases-loop-begins l = l.row
