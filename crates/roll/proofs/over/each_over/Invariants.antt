-- `each_over` meets its contract. The loop's invariant is `Passing`: what is left says what the whole says. Assumes nothing.
use Rattle.roll.proofs.OverLaws.{Passing}
use Rattle.roll.proofs.over.each_over.Given as goal

abbrev pub invariant-loop-done : goal.invariant-loop-done
invariant-loop-done l = Passing l.roll l.at l.count l.table l.place l.done
