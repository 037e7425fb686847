-- `alike` meets its contract.
use Rattle.expansion.proofs.FurtherWords.{alike-first, alike-some, alike-less, alike-more, alike-last}
use Rattle.expansion.proofs.further.alike.Goals as goal

pub loop-a-init : goal.loop-a-init
loop-a-init c = search alike-first

pub overflow_sub-n : goal.overflow_sub-n
overflow_sub-n c = search alike-some

pub loop-a-smaller : goal.loop-a-smaller
loop-a-smaller c = search alike-less

pub loop-a-preserved : goal.loop-a-preserved
loop-a-preserved c = search alike-more

pub returns : goal.returns
returns c = search alike-last
