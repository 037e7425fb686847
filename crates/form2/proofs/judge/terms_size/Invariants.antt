-- `terms_size` meets its contract. The loop's invariant is `Sizing`: what was measured, and the terms left, make the whole. Assumes nothing.
use Rattle.form2.proofs.JudgeLaws.{Sizing}
use Rattle.form2.proofs.judge.terms_size.Given as goal

abbrev pub invariant-loop-done : goal.invariant-loop-done
invariant-loop-done l = Sizing l.roll l.at l.terms l.kind l.l l.values l.count l.place l.done l.size
