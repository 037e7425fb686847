-- `put_terms` meets its contract. The loop's invariant is `Writing1`: what stands there, and the terms left, make the whole. Assumes nothing.
use Rattle.form2.proofs.LongerLaws.{Writing1}
use Rattle.form2.proofs.longer.put_terms.Given as goal

abbrev pub invariant-loop-done : goal.invariant-loop-done
invariant-loop-done l = Writing1 l.initial.out l.start l.roll l.at l.terms l.kind l.l l.out l.from l.count l.place l.done l.to
