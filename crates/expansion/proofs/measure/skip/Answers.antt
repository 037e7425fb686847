-- `skip` meets its contract.
use Rattle.expansion.proofs.MeasureSizes.{skip-two, skip-one}
use Rattle.expansion.proofs.measure.skip.Goals as goal

pub returns-then-width-eq2 : goal.returns-then-width-eq2
returns-then-width-eq2 c = search skip-two

pub returns : goal.returns
returns c = search skip-one
