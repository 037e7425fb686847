-- `all_small` meets its contract. The loop's invariant is `Looking`: the bytes so far are small. Assumes nothing.
use Rattle.roll.proofs.OverLaws.{Looking}
use Rattle.roll.proofs.over.all_small.Given as goal

abbrev pub invariant-loop-place : goal.invariant-loop-place
invariant-loop-place l = Looking l.roll l.at l.end l.last l.place
