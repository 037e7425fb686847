-- `stays_kinetic` meets its contract: what is left of the prefactors decides it. Assumes nothing.
use Rattle.integrals.proofs.SumsLaws.{kinetic-more, kinetic-not, kinetic-done}
use Rattle.integrals.proofs.sums.stays_kinetic.Goals as goal

pub loop-at-preserved : goal.loop-at-preserved
loop-at-preserved c = search kinetic-more

pub returns-then-wide-gt7 : goal.returns-then-wide-gt7
returns-then-wide-gt7 c = search kinetic-not

pub returns : goal.returns
returns c = search kinetic-done
