-- `judged2` meets its contract: what form 2 tells, without the term before.
use borrow.Author.Rules.{rules}
use Rattle.confirming.proofs.QuickLaws.{judged_plain, judged_refused}
use Rattle.confirming.proofs.reading.judged2.Goals as goal

pub returns-in_err-opened : goal.returns-in_err-opened
returns-in_err-opened c = search (rules, judged_refused)

pub returns : goal.returns
returns c = search (rules, judged_plain)
