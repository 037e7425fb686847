-- `put` meets its contract. The loop's invariant is `Put`: what is left to store makes the whole; the number left falls. Assumes nothing.
use Rattle.number.proofs.Writing.{Put}
use Rattle.number.proofs.put.Given as goal

abbrev pub invariant-loop-left : goal.invariant-loop-left
invariant-loop-left l = Put l.initial.out l.start l.n l.out l.left l.at

abbrev pub decreases-loop-left : goal.decreases-loop-left
decreases-loop-left l = l.left
