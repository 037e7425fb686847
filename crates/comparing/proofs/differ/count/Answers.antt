-- `count` meets its contract. The loop's invariant is `Counting`: what is counted and what is left are all lines. Assumes nothing.
use Rattle.comparing.proofs.DifferLaws.{counting-first, counting-fits, counting-less, counting_more, counting-done, counting-refused}
use Rattle.comparing.proofs.differ.count.Goals as goal

pub loop-met-init : goal.loop-met-init
loop-met-init c = search counting-first

pub overflow_add-n : goal.overflow_add-n
overflow_add-n c = record { fits = search counting-fits }

pub loop-met-smaller : goal.loop-met-smaller
loop-met-smaller c = search counting-less

pub loop-met-preserved : goal.loop-met-preserved
loop-met-preserved c = search counting_more

pub returns-in_default : goal.returns-in_default
returns-in_default c = search counting-done

pub returns-in_default-2 : goal.returns-in_default-2
returns-in_default-2 c = search counting-refused
