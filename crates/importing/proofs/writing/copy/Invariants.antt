-- `copy` meets its contract: what is still to be copied, put down here, is the whole put down at the start. Assumes nothing.
use Rattle.importing.proofs.Putting.{Copying}
use Rattle.importing.proofs.writing.copy.Given as goal

abbrev pub invariant-loop-done : goal.invariant-loop-done
invariant-loop-done l = Copying l.text l.at l.n l.initial.out l.place l.out l.from l.to l.done
