-- `put_row` meets its contract. The loop's invariant is `PuttingRow`: what is left of the row makes the row. Assumes nothing.
use Rattle.shell.proofs.Listing.{putting-row-first, putting-row-more, putting-row-done, putting-row-last}
use Rattle.shell.proofs.put_row.Goals as goal

pub loop-z-init : goal.loop-z-init
loop-z-init c = search putting-row-first

pub loop-z-preserved : goal.loop-z-preserved
loop-z-preserved c = search putting-row-more

pub returns : goal.returns
returns c = search putting-row-done

pub returns-2 : goal.returns-2
returns-2 c = search putting-row-last
