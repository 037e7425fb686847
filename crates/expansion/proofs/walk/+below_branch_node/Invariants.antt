-- What is left to lower falls.
use Rattle.expansion.proofs.WalkCycle.{below_fuel, branch_fuel, node_fuel}
use Rattle.expansion.proofs.walk.+below_branch_node.Given as goal

abbrev pub decreases-below : goal.decreases-below
decreases-below l = below_fuel l.child

abbrev pub decreases-branch : goal.decreases-branch
decreases-branch l = branch_fuel l.kind l.left l.path l.number

abbrev pub decreases-node : goal.decreases-node
decreases-node l = node_fuel l.kind l.left l.path
