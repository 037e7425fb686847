-- `each_over` meets its contract: a law for each way out. Assumes nothing.
use borrow.Author.Rules.{rules}
use Rattle.roll.proofs.OverLaws.{passing-more, passing-refused, passing-done}
use Rattle.roll.proofs.over.each_over.Goals as goal

pub returns-in_err-next : goal.returns-in_err-next
returns-in_err-next c = search (rules, passing-refused)

pub loop-done-preserved : goal.loop-done-preserved
loop-done-preserved c = search (rules, passing-more)

pub returns : goal.returns
returns c = search (rules, passing-done)
