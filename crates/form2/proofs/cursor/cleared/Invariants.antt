-- `cleared` meets its contract. The loop's invariant is `Clearing`: the first so many are there, zeros behind. Assumes nothing.
use Rattle.form2.proofs.CursorLaws.{Clearing}
use Rattle.form2.proofs.cursor.cleared.Given as goal

abbrev pub invariant-loop-i : goal.invariant-loop-i
invariant-loop-i l = Clearing l.values l.count l.held l.i
