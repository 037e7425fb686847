-- `sum_from` meets its contract. The loop's invariant is `Summing`: the scales so far and those of the terms left are the whole sum, and a scale below 2^32 for each term fits. Assumes nothing.
use Rattle.totals.proofs.SumLaws.{Summing}
use Rattle.totals.proofs.sum_from.Given as goal

abbrev pub invariant-loop-done : goal.invariant-loop-done
invariant-loop-done l = Summing l.roll l.start l.terms l.sum l.at l.done
