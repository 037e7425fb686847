-- `unit` meets its contract.
use Rattle.steps.proofs.BranchesLaws.{unit-shifted, unit-below}
use Rattle.steps.proofs.branches.unit.Goals as goal

pub returns : goal.returns
returns c = (search unit-shifted, search unit-below)
