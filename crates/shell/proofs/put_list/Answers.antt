-- `put_list` meets its contract. The loop's invariant is `Putting`: what is left of the list makes the whole. Assumes nothing.
use borrow.Author.Rules.{rules}
use Rattle.shell.proofs.Listing.{putting-first, putting-room, putting-more, putting-done, putting-last}
use Rattle.shell.proofs.put_list.Goals as goal

pub loop-row-init : goal.loop-row-init
loop-row-init c = search putting-first

pub put_row-requires : goal.put_row-requires
put_row-requires c = (search rules, search putting-room)

pub loop-row-preserved : goal.loop-row-preserved
loop-row-preserved c = search putting-more

pub returns : goal.returns
returns c = search putting-done

pub returns-2 : goal.returns-2
returns-2 c = search putting-last
