-- `text::read_run` meets its contract: at each turn the value so far and the digits left give the whole run's. Assumes nothing.
use Rattle.text.proofs.Reading.{Upto}
use Rattle.text.proofs.read_run.Given as goal

abbrev pub invariant-loop-i : goal.invariant-loop-i
invariant-loop-i l = Upto l.s l.base l.at l.i l.n
