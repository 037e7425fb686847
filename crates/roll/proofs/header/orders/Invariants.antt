-- `orders` meets its contract. The loop's invariant is `Ordering`: what was read so far before what is still to be read makes the whole. Assumes nothing.
use Rattle.roll.proofs.HeaderLaws.{Ordering}
use Rattle.roll.proofs.header.orders.Given as goal

abbrev pub invariant-loop-i : goal.invariant-loop-i
invariant-loop-i l = Ordering l.roll l.at l.n l.values l.place l.sum l.l l.i
