-- `sum` meets its contract: what is left of the entries gives the whole sum. Assumes nothing.
use Rattle.grouping.proofs.SummingLaws.{sum_more, sum_done}
use Rattle.grouping.proofs.summing.sum.Goals as goal

pub loop-done-preserved : goal.loop-done-preserved
loop-done-preserved c = search sum_more

pub returns : goal.returns
returns c = search sum_done
