-- `put` meets its contract. The loop's invariant is `Put`: what is left to store makes the whole; the number left falls. Assumes nothing.
use Rattle.number.proofs.Writing.{put-inside, put-more, put-end, put_all}
use Rattle.number.proofs.put.Goals as goal

pub bounds-out-at : goal.bounds-out-at
bounds-out-at c = search put-inside

pub loop-left-preserved : goal.loop-left-preserved
loop-left-preserved c = search put-more

pub bounds-out-at-2 : goal.bounds-out-at-2
bounds-out-at-2 c = search put-inside

pub returns : goal.returns
returns c = (search put-end, search put_all)
