-- `quadruple_at` meets its contract: what stands beside each other at a number, by division. Assumes nothing.
use borrow.Author.Rules.{rules}
use Rattle.shell.proofs.Places.{inside-first, inside-second, found-beside}
use Rattle.shell.proofs.quadruple_at.Goals as goal

pub pair_at-first-requires : goal.pair_at-first-requires
pair_at-first-requires c = (search rules, search inside-first)

pub pair_at-second-requires : goal.pair_at-second-requires
pair_at-second-requires c = (search rules, search inside-second)

pub returns : goal.returns
returns c = search found-beside
