-- `further` meets its contract: the numbers on the way fit, and the quotient is right or one too large. Assumes nothing.
use Rattle.root.proofs.Parts.{over_first, over-sum, root-first, root-sum, left-first, left-sum, square-small, twice-root, room-sum, further-kept, further-root, further-sum, further-room, further-less}
use Rattle.root.proofs.further.Goals as goal

pub overflow_mul-over : goal.overflow_mul-over
overflow_mul-over c = record { fits = search over_first }

pub overflow_add-over : goal.overflow_add-over
overflow_add-over c = record { fits = search over-sum }

pub overflow_mul-root : goal.overflow_mul-root
overflow_mul-root c = record { fits = search root-first }

pub overflow_add-root : goal.overflow_add-root
overflow_add-root c = record { fits = search root-sum }

pub overflow_mul-rest : goal.overflow_mul-rest
overflow_mul-rest c = record { fits = search left-first }

pub overflow_add-rest : goal.overflow_add-rest
overflow_add-rest c = record { fits = search left-sum }

pub overflow_mul-square : goal.overflow_mul-square
overflow_mul-square c = record { fits = search square-small }

pub returns-then-square-rest : goal.returns-then-square-rest
returns-then-square-rest c = search further-kept

pub overflow_sub-result-2 : goal.overflow_sub-result-2
overflow_sub-result-2 c = search further-root

pub overflow_mul-result : goal.overflow_mul-result
overflow_mul-result c = record { fits = search twice-root }

pub overflow_add-result : goal.overflow_add-result
overflow_add-result c = record { fits = search room-sum }

pub overflow_sub-result-3 : goal.overflow_sub-result-3
overflow_sub-result-3 c = search further-sum

pub overflow_sub-result-4 : goal.overflow_sub-result-4
overflow_sub-result-4 c = search further-room

pub returns : goal.returns
returns c = search further-less
