-- `some_above` meets its contract. The loop's invariant is `Above`: from a place on as of the whole. Assumes nothing.
use Rattle.form2.proofs.CursorLaws.{Above}
use Rattle.form2.proofs.cursor.some_above.Given as goal

abbrev pub invariant-loop-i : goal.invariant-loop-i
invariant-loop-i l = Above l.table l.values l.count l.i
