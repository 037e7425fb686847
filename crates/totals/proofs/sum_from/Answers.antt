-- `sum_from` meets its contract. The loop's invariant is `Summing`: the scales so far and those of the terms left are the whole sum, and a scale below 2^32 for each term fits. Assumes nothing.
use borrow.Author.Rules.{rules}
use Rattle.totals.proofs.SumLaws.{sum_first, sum_more, sum_done, sum_fits}
use Rattle.totals.proofs.sum_from.Goals as goal

pub loop-done-init : goal.loop-done-init
loop-done-init c = search sum_first

pub overflow_add-sum : goal.overflow_add-sum
overflow_add-sum c = search (rules, sum_fits)

pub loop-done-preserved : goal.loop-done-preserved
loop-done-preserved c = search (rules, sum_more)

pub returns : goal.returns
returns c = search (rules, sum_done)
