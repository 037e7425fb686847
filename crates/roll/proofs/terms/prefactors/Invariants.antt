-- `prefactors` meets its contract. The loop's invariant is `Filling`: what was read so far before what is still to be read makes the whole. Assumes nothing.
use Rattle.roll.proofs.TermsLaws.{Filling}
use Rattle.roll.proofs.terms.prefactors.Given as goal

abbrev pub invariant-loop-i : goal.invariant-loop-i
invariant-loop-i l = Filling l.roll l.at l.count l.table l.values l.place l.i
