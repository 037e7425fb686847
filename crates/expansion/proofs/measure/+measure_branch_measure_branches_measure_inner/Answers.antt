-- `measure_branch`, `measure_branches` and `measure_inner` meet their contracts. Assumes nothing.
use Rattle.expansion.proofs.MeasureCycle.{first_count_lem, one-count, none_told, turn-first, first-told, skip-told, fall-fits, scale-fits, count_fits, child-count, child-measured, child-told, term-scale, term-count, term_told, added-first, added-done, added-turn, added-some, product-fits, sum_fits, added-over, next-number, next-less, added_more}
use Rattle.expansion.proofs.measure.+measure_branch_measure_branches_measure_inner.Goals as goal

pub measure_branch-returns-then-times-eq0 : goal.measure_branch-returns-then-times-eq0
measure_branch-returns-then-times-eq0 t c = search skip-told

pub measure_branch-overflow_sub-below : goal.measure_branch-overflow_sub-below
measure_branch-overflow_sub-below t c = search fall-fits

pub measure_branch-overflow_mul-scaled : goal.measure_branch-overflow_mul-scaled
measure_branch-overflow_mul-scaled t c = record { fits = search scale-fits }

pub measure_branch-overflow_add-count : goal.measure_branch-overflow_add-count
measure_branch-overflow_add-count t c = record { fits = search count_fits }

pub measure_branch-leaf-requires : goal.measure_branch-leaf-requires
measure_branch-leaf-requires t c = (search term-scale, search term-count)

pub measure_branch-returns-then-below-eq0 : goal.measure_branch-returns-then-below-eq0
measure_branch-returns-then-below-eq0 t c = search term_told

pub measure_branch-overflow_add-count-2 : goal.measure_branch-overflow_add-count-2
measure_branch-overflow_add-count-2 t c = record { fits = search count_fits }

pub measure_branch-measure_inner-requires : goal.measure_branch-measure_inner-requires
measure_branch-measure_inner-requires t c = (search child-count, (search child-measured, search))

pub measure_branch-returns : goal.measure_branch-returns
measure_branch-returns t c = search child-told

pub measure_branches-loop-rest-init : goal.measure_branches-loop-rest-init
measure_branches-loop-rest-init t c = search added-first

pub measure_branches-measure_branch-one-requires : goal.measure_branches-measure_branch-one-requires
measure_branches-measure_branch-one-requires t c = (search one-count, (search, (search added-turn, search added-some)))

pub measure_branches-overflow_mul-total : goal.measure_branches-overflow_mul-total
measure_branches-overflow_mul-total t c = record { fits = search product-fits }

pub measure_branches-overflow_add-total : goal.measure_branches-overflow_add-total
measure_branches-overflow_add-total t c = record { fits = search sum_fits }

pub measure_branches-returns-then-total-ge-OVER : goal.measure_branches-returns-then-total-ge-OVER
measure_branches-returns-then-total-ge-OVER t c = search added-over

pub measure_branches-overflow_add-number : goal.measure_branches-overflow_add-number
measure_branches-overflow_add-number t c = record { fits = search next-number }

pub measure_branches-loop-rest-smaller : goal.measure_branches-loop-rest-smaller
measure_branches-loop-rest-smaller t c = search next-less

pub measure_branches-loop-rest-preserved : goal.measure_branches-loop-rest-preserved
measure_branches-loop-rest-preserved t c = search added_more

pub measure_branches-returns : goal.measure_branches-returns
measure_branches-returns t c = search added-done

pub measure_inner-measure_branches-requires : goal.measure_inner-measure_branches-requires
measure_inner-measure_branches-requires t c = (search first_count_lem, (search, search turn-first))

pub measure_inner-returns-in_default : goal.measure_inner-returns-in_default
measure_inner-returns-in_default t c = search none_told

pub measure_inner-returns : goal.measure_inner-returns
measure_inner-returns t c = search first-told
