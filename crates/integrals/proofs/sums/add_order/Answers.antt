-- `add_order` meets its contract: a law for each way out. Assumes nothing.
use Rattle.roll.proofs.AgainLaws.{head-inside}
use Rattle.integrals.proofs.SumsLaws.{of-order, not-of-order}
use Rattle.integrals.proofs.sums.add_order.Goals as goal

pub add_term-requires : goal.add_term-requires
add_term-requires c = search head-inside

pub returns-then-boys_at-order : goal.returns-then-boys_at-order
returns-then-boys_at-order c = search of-order

pub returns : goal.returns
returns c = search not-of-order
