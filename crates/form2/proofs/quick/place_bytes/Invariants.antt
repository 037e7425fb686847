-- `place_bytes` meets its contract. The loop's invariant is `Placed`: the first so many bytes stand there. Assumes nothing.
use Rattle.form2.proofs.QuickLaws.{Placed}
use Rattle.form2.proofs.quick.place_bytes.Given as goal

abbrev pub invariant-loop-i : goal.invariant-loop-i
invariant-loop-i l = Placed l.roll l.at l.initial.values l.from l.count l.values l.i
