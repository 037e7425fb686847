-- `more` meets its contract. The loop's invariant is `Placing`: what is told of those still to be read is told of all. Assumes nothing.
use Rattle.form2.proofs.TermsLaws.{Placing}
use Rattle.form2.proofs.terms.more.Given as goal

abbrev pub invariant-loop-i : goal.invariant-loop-i
invariant-loop-i l = Placing l.roll l.at l.initial.values l.from l.count l.table l.values l.place l.i
