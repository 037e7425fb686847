-- `copy` meets its contract: what is still to be copied, put down here, is the whole put down at the start. Assumes nothing.
use Rattle.importing.proofs.Putting.{copying-first, copying-room, copying-more, copying-wrong, copying-done}
use Rattle.importing.proofs.writing.copy.Goals as goal

pub loop-done-init : goal.loop-done-init
loop-done-init c = search copying-first

pub put-to-requires : goal.put-to-requires
put-to-requires c = search copying-room

pub loop-done-preserved : goal.loop-done-preserved
loop-done-preserved c = search copying-more

pub returns-in_default : goal.returns-in_default
returns-in_default c = search copying-wrong

pub returns-after-loop-done : goal.returns-after-loop-done
returns-after-loop-done c = search copying-done
