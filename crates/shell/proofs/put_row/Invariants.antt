-- `put_row` meets its contract. The loop's invariant is `PuttingRow`: what is left of the row makes the row. Assumes nothing.
use Rattle.shell.proofs.Listing.{PuttingRow}
use Rattle.shell.proofs.put_row.Given as goal

abbrev pub invariant-loop-z : goal.invariant-loop-z
invariant-loop-z l = PuttingRow l.m l.row l.at l.initial.out l.out l.z
