-- `packed` meets its contract.
use Rattle.expansion.specs.inner.Requests.{Packed}
use Rattle.expansion.proofs.request.packed.Given as goal

abbrev pub invariant-loop-i : goal.invariant-loop-i
invariant-loop-i l = Packed l.orders l.i l.word
