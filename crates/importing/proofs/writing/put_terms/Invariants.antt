-- `put_terms` meets its contract: what is still to be written, put down here, is the whole put down at the start. Assumes nothing.
use Rattle.importing.proofs.Putting.{Terms}
use Rattle.importing.proofs.writing.put_terms.Given as goal

abbrev pub invariant-loop-done : goal.invariant-loop-done
invariant-loop-done l = Terms l.text l.at l.terms l.initial.out l.place l.out l.from l.to l.done
