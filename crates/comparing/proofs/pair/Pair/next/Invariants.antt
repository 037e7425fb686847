-- `next` meets its contract. The loop's invariant is `Going`: the step from here on is the whole step. Assumes nothing.
use Rattle.comparing.proofs.PairLaws.{Going}
use Rattle.comparing.proofs.pair.Pair.next.Given as goal

abbrev pub invariant-loop-l : goal.invariant-loop-l
invariant-loop-l l = Going l.left l.right l.initial.at l.at

abbrev pub decreases-loop-l : goal.decreases-loop-l
decreases-loop-l l = l.at.left.cursor.left
