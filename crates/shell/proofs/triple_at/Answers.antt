-- `triple_at` meets its contract. The loop's invariant is `Rowed`: where the row begins, and that no later row is the number's. Assumes nothing.
use Rattle.shell.proofs.Places.{rowed-fits, rowed-first, rowed-some, rowed-falls, rowed-room, rowed-more, rowed-done}
use Rattle.shell.proofs.triple_at.Goals as goal

pub overflow_mul-begins : goal.overflow_mul-begins
overflow_mul-begins c = search rowed-fits

pub loop-begins-init : goal.loop-begins-init
loop-begins-init c = search rowed-first

pub overflow_sub-begins : goal.overflow_sub-begins
overflow_sub-begins c = search rowed-room

pub overflow_sub-row : goal.overflow_sub-row
overflow_sub-row c = search rowed-some

pub loop-begins-smaller : goal.loop-begins-smaller
loop-begins-smaller c = search rowed-falls

pub loop-begins-preserved : goal.loop-begins-preserved
loop-begins-preserved c = search rowed-more

pub returns : goal.returns
returns c = search rowed-done
