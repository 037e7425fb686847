-- `alike` meets its contract.
use Rattle.expansion.proofs.FurtherWords.{Alike}
use Rattle.expansion.proofs.further.alike.Given as goal

abbrev pub invariant-loop-a : goal.invariant-loop-a
invariant-loop-a l = Alike l.count l.one l.other l.n l.a l.b

abbrev pub decreases-loop-a : goal.decreases-loop-a
decreases-loop-a l = l.n
