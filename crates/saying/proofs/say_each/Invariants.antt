-- `say_each` meets its contract: each turn takes one number off what is still to be said. Assumes nothing.
use Rattle.saying.proofs.Pieces.{Telling}
use Rattle.saying.proofs.say_each.Given as goal

abbrev pub invariant-loop-value : goal.invariant-loop-value
invariant-loop-value l = Telling l.room l.initial.out l.initial.said l.mark l.values l.out l.said l.value-index
