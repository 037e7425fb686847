-- `listed` meets its contract. The list that is run along is the kind's.
use Rattle.totals.proofs.RunLaws.{run-may, run-listed}
use Rattle.totals.proofs.listed.Goals as goal

pub run_to-requires : goal.run_to-requires
run_to-requires c = search run-may

pub returns : goal.returns
returns c = search run-listed
