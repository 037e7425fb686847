-- `branch` meets its contract.
use Rattle.steps.proofs.BranchesLaws.{no-branch}
use Rattle.steps.proofs.branches.branch.Goals as goal

pub returns-then-branches-number : goal.returns-then-branches-number
returns-then-branches-number c = search no-branch
