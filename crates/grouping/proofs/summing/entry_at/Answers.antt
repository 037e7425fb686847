-- `entry_at` meets its contract. Assumes nothing.
use Rattle.grouping.proofs.SummingLaws.{entry-is}
use Rattle.grouping.proofs.summing.entry_at.Goals as goal

pub returns : goal.returns
returns c = search entry-is
