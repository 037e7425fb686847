-- `terms_over` meets its contract: a law for each way out. Assumes nothing.
use borrow.Author.Rules.{rules}
use Rattle.roll.proofs.OverLaws.{going_more, going-refused, going_done}
use Rattle.roll.proofs.over.terms_over.Goals as goal

pub returns-in_err-place : goal.returns-in_err-place
returns-in_err-place c = search (rules, going-refused)

pub loop-done-preserved : goal.loop-done-preserved
loop-done-preserved c = search (rules, going_more)

pub returns : goal.returns
returns c = search (rules, going_done)
