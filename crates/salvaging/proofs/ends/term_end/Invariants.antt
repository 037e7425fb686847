-- `term_end` meets its contract. The loop's invariant is `Scale`: the scale's last byte is where it was. Assumes nothing.
use lib.ListN.{drop}
use Rattle.salvaging.specs.inner.Ends.{until_last}
use Rattle.salvaging.proofs.EndsLaws.{Scale}
use Rattle.salvaging.proofs.ends.term_end.Given as goal

abbrev pub invariant-loop-place : goal.invariant-loop-place
invariant-loop-place l = Scale l.fresh l.at l.place

abbrev pub decreases-loop-place : goal.decreases-loop-place
decreases-loop-place l = until_last (drop l.place l.fresh)
