-- What is left to lower falls.
use Rattle.expansion.proofs.WalkCycle.{below_fuel, branch_fuel, node_fuel}
use Rattle.expansion.proofs.matching.+match_below_match_branch_match_node.Given as goal

abbrev pub decreases-match_below : goal.decreases-match_below
decreases-match_below l = below_fuel l.child

abbrev pub decreases-match_branch : goal.decreases-match_branch
decreases-match_branch l = branch_fuel l.kind l.left l.path l.number

abbrev pub decreases-match_node : goal.decreases-match_node
decreases-match_node l = node_fuel l.kind l.left l.path
