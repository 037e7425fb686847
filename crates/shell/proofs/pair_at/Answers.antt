-- `pair_at` meets its contract: what stands beside each other at a number, by division. Assumes nothing.
use Rattle.shell.proofs.Places.{inside-first, inside-second, stands-beside}
use Rattle.shell.proofs.pair_at.Goals as goal

pub triple_at-first-requires : goal.triple_at-first-requires
triple_at-first-requires c = search inside-first

pub triple_at-second-requires : goal.triple_at-second-requires
triple_at-second-requires c = search inside-second

pub returns : goal.returns
returns c = search stands-beside
