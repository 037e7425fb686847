-- `orders` meets its contract: what is left says what the whole says. Assumes nothing.
use Rattle.importing.proofs.Numbers.{Ordering}
use Rattle.importing.proofs.numerals.orders.Given as goal

abbrev pub invariant-loop-i : goal.invariant-loop-i
invariant-loop-i l = Ordering l.s l.at l.n l.place l.sum l.l l.i
