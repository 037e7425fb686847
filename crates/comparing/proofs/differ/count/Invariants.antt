-- `count` meets its contract. The loop's invariant is `Counting`: what is counted and what is left are all lines. Assumes nothing.
use Rattle.comparing.specs.Pairs.{terms_left}
use Rattle.comparing.proofs.DifferLaws.{Counting}
use Rattle.comparing.proofs.differ.count.Given as goal

abbrev pub invariant-loop-met : goal.invariant-loop-met
invariant-loop-met l = Counting l.left l.right l.initial.at l.at l.n

abbrev pub decreases-loop-met : goal.decreases-loop-met
decreases-loop-met l = terms_left l.at
