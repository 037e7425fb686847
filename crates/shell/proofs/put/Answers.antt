-- `put` meets its contract: the three bytes stand in the part that is written. Assumes nothing.
use borrow.Author.Rules.{rules}
use Rattle.shell.proofs.Listing.{triple-put}
use Rattle.shell.proofs.put.Goals as goal

pub returns : goal.returns
returns c = search (rules, triple-put)
