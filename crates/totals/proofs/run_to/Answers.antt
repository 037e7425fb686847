-- `run_to` meets its contract: the two numbers are those of the list where the count stands. Assumes nothing.
use borrow.Author.Rules.{rules}
use Rattle.totals.proofs.RunLaws.{run-first, run-next, run-done, after-fits, count_fits, reached-fits, next_fits}
use Rattle.totals.proofs.run_to.Goals as goal

pub loop-n-init : goal.loop-n-init
loop-n-init c = (search rules, (run-first c.args.often).0, (run-first c.args.often).1)

pub overflow_mul-next : goal.overflow_mul-next
overflow_mul-next c = search after-fits

pub overflow_mul-next-in-loop-n : goal.overflow_mul-next-in-loop-n
overflow_mul-next-in-loop-n c = search count_fits

pub overflow_mul-next-in-loop-n-2 : goal.overflow_mul-next-in-loop-n-2
overflow_mul-next-in-loop-n-2 c = search reached-fits

pub overflow_add-next-in-loop-n : goal.overflow_add-next-in-loop-n
overflow_add-next-in-loop-n c = search next_fits

pub loop-n-preserved : goal.loop-n-preserved
loop-n-preserved c = (search rules, search rules, search run-next)

pub returns : goal.returns
returns c = search run-done
