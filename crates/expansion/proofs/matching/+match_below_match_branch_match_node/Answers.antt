-- `match_below`, `match_branch` and `match_node` meet their contracts. Assumes nothing.
use Rattle.expansion.proofs.WalkCycle.{below-falls}
use Rattle.expansion.proofs.MatchCycle.{match_none, match-number, match-skip-falls, match-skip, match-skipped, match-child-falls, match-child, match-then, match-done, match-last, match-end, node-term, node-matched, match-nothing, match-first-falls, match-first, match-first-done}
use Rattle.expansion.proofs.matching.+match_below_match_branch_match_node.Goals as goal

pub match_below-match_term-requires : goal.match_below-match_term-requires
match_below-match_term-requires t c = search node-term

pub match_below-returns-then-child-eq0 : goal.match_below-returns-then-child-eq0
match_below-returns-then-child-eq0 t c = search node-matched

pub match_below-match_node-requires : goal.match_below-match_node-requires
match_below-match_node-requires t c = (search below-falls, search)

pub match_branch-returns-then-times-eq0 : goal.match_branch-returns-then-times-eq0
match_branch-returns-then-times-eq0 t c = search match_none

pub match_branch-overflow_add-number : goal.match_branch-overflow_add-number
match_branch-overflow_add-number t c = record { fits = search match-number }

pub match_branch-match_branch-requires : goal.match_branch-match_branch-requires
match_branch-match_branch-requires t c = (search match-skip-falls, search match-skip)

pub match_branch-returns-then-times-eq0-2 : goal.match_branch-returns-then-times-eq0-2
match_branch-returns-then-times-eq0-2 t c = search match-skipped

pub match_branch-child-next-requires : goal.match_branch-child-next-requires
match_branch-child-next-requires t c = record { good = search; turn_may = search; fact = search }

pub match_branch-match_below-requires : goal.match_branch-match_below-requires
match_branch-match_below-requires t c = (search match-child-falls, search match-child)

pub match_branch-returns-then-rest-eq0 : goal.match_branch-returns-then-rest-eq0
match_branch-returns-then-rest-eq0 t c = search match-last

pub match_branch-returns-then-state-ne0 : goal.match_branch-returns-then-state-ne0
match_branch-returns-then-state-ne0 t c = search match-end

pub match_branch-overflow_add-number-2 : goal.match_branch-overflow_add-number-2
match_branch-overflow_add-number-2 t c = record { fits = search match-number }

pub match_branch-match_branch-requires-2 : goal.match_branch-match_branch-requires-2
match_branch-match_branch-requires-2 t c = (search match-skip-falls, search (match-then, c.match_below.ensures, c.child-next.ensures))

pub match_branch-returns : goal.match_branch-returns
match_branch-returns t c = search match-done

pub match_node-match_term-requires : goal.match_node-match_term-requires
match_node-match_term-requires t c = search node-term

pub match_node-returns-then-left-eq0 : goal.match_node-returns-then-left-eq0
match_node-returns-then-left-eq0 t c = search node-matched

pub match_node-match_branch-requires : goal.match_node-match_branch-requires
match_node-match_branch-requires t c = (search match-first-falls, search match-first)

pub match_node-returns-in_default : goal.match_node-returns-in_default
match_node-returns-in_default t c = search match-nothing

pub match_node-returns-in-Some : goal.match_node-returns-in-Some
match_node-returns-in-Some t c = search match-first-done
