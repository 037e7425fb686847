-- `put_list` meets its contract. The loop's invariant is `Putting`: what is left of the list makes the whole. Assumes nothing.
use Rattle.shell.proofs.Listing.{Putting}
use Rattle.shell.proofs.put_list.Given as goal

abbrev pub invariant-loop-row : goal.invariant-loop-row
invariant-loop-row l = Putting l.m l.initial.out l.out l.row l.at
