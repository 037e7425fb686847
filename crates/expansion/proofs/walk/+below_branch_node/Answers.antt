-- `below`, `branch` and `node` meet their contracts. Assumes nothing.
use Rattle.expansion.proofs.WalkCycle.{below-falls, branch-none, number_fits, skip-falls, skip-may, skipped, child-falls, child-may, then_may, then-done, then-last, node-emits, node-emitted, node-none, first-falls, first-may, first_done}
use Rattle.expansion.proofs.walk.+below_branch_node.Goals as goal

pub below-emit-requires : goal.below-emit-requires
below-emit-requires t c = search node-emits

pub below-returns-then-child-eq0 : goal.below-returns-then-child-eq0
below-returns-then-child-eq0 t c = search node-emitted

pub below-node-requires : goal.below-node-requires
below-node-requires t c = (search below-falls, search)

pub branch-returns-then-times-eq0 : goal.branch-returns-then-times-eq0
branch-returns-then-times-eq0 t c = search branch-none

pub branch-overflow_add-number : goal.branch-overflow_add-number
branch-overflow_add-number t c = record { fits = search number_fits }

pub branch-branch-out-requires : goal.branch-branch-out-requires
branch-branch-out-requires t c = (search skip-falls, search skip-may)

pub branch-returns-then-times-eq0-2 : goal.branch-returns-then-times-eq0-2
branch-returns-then-times-eq0-2 t c = search skipped

pub branch-child-next-requires : goal.branch-child-next-requires
branch-child-next-requires t c = record { good = search; turn_may = search; fact = search }

pub branch-below-requires : goal.branch-below-requires
branch-below-requires t c = (search child-falls, search child-may)

pub branch-returns-then-rest-eq0 : goal.branch-returns-then-rest-eq0
branch-returns-then-rest-eq0 t c = search then-last

pub branch-overflow_add-number-2 : goal.branch-overflow_add-number-2
branch-overflow_add-number-2 t c = record { fits = search number_fits }

pub branch-branch-out-requires-2 : goal.branch-branch-out-requires-2
branch-branch-out-requires-2 t c = (search skip-falls, search (then_may, c.below.ensures, c.child-next.ensures))

pub branch-returns : goal.branch-returns
branch-returns t c = search then-done

pub node-emit-requires : goal.node-emit-requires
node-emit-requires t c = search node-emits

pub node-returns-then-left-eq0 : goal.node-returns-then-left-eq0
node-returns-then-left-eq0 t c = search node-emitted

pub node-branch-out-requires : goal.node-branch-out-requires
node-branch-out-requires t c = (search first-falls, search first-may)

pub node-returns-in_default : goal.node-returns-in_default
node-returns-in_default t c = search node-none

pub node-returns-in-Some : goal.node-returns-in-Some
node-returns-in-Some t c = search first_done
