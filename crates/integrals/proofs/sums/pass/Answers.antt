-- `pass` meets its contract: what is left of the terms gives the whole sum of the order. Assumes nothing.
use Rattle.integrals.proofs.SumsLaws.{pass-more, pass-done}
use Rattle.integrals.proofs.sums.pass.Goals as goal

pub loop-done-preserved : goal.loop-done-preserved
loop-done-preserved c = search pass-more

pub returns : goal.returns
returns c = search pass-done
