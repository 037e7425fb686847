-- What is left to lower falls.
use Rattle.expansion.proofs.MeasureCycle.{Added, branch_count, branches_count, inner_count}
use Rattle.expansion.proofs.measure.+measure_branch_measure_branches_measure_inner.Given as goal

abbrev pub decreases-measure_branch : goal.decreases-measure_branch
decreases-measure_branch l = branch_count l.kind l.left

abbrev pub decreases-measure_branches : goal.decreases-measure_branches
decreases-measure_branches l = branches_count l.kind l.left

abbrev pub decreases-measure_inner : goal.decreases-measure_inner
decreases-measure_inner l = inner_count l.kind l.left

abbrev pub invariant-measure_branches-loop-rest : goal.invariant-measure_branches-loop-rest
invariant-measure_branches-loop-rest l = Added l.kind l.left l.scale l.count l.lowered.centre l.lowered.axis l.rest l.number l.total

abbrev pub decreases-measure_branches-loop-rest : goal.decreases-measure_branches-loop-rest
decreases-measure_branches-loop-rest l = l.rest
