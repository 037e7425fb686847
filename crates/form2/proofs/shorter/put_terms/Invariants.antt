-- `put_terms` meets its contract. The loop's invariant is `Writing2`: what stands there, and what is still to be written, make the whole. Assumes nothing.
use Rattle.form2.proofs.ShorterLaws.{Writing2}
use Rattle.form2.proofs.shorter.put_terms.Given as goal

abbrev pub invariant-loop-done : goal.invariant-loop-done
invariant-loop-done l = Writing2 l.initial.out l.start l.roll l.at l.terms l.out l.from l.end l.place l.done l.to
