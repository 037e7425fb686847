-- `terms_size` meets its contract. The loop's invariant is `Sizing2`: what was measured, and what is still to be measured, make the whole. Assumes nothing.
use Rattle.form2.proofs.ShorterLaws.{Sizing2}
use Rattle.form2.proofs.shorter.terms_size.Given as goal

abbrev pub invariant-loop-done : goal.invariant-loop-done
invariant-loop-done l = Sizing2 l.roll l.at l.terms l.from l.end l.place l.done l.size
