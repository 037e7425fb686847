-- `sum` meets its contract: what is left of the terms gives the whole sum. Assumes nothing.
use Rattle.roll.proofs.AgainLaws.{head-inside}
use Rattle.integrals.proofs.SumsLaws.{sum_more, sum_done}
use Rattle.integrals.proofs.sums.sum.Goals as goal

pub addend-sum-requires : goal.addend-sum-requires
addend-sum-requires c = search head-inside

pub loop-done-preserved : goal.loop-done-preserved
loop-done-preserved c = search sum_more

pub returns : goal.returns
returns c = search sum_done
