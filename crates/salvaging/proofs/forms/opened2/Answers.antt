-- `opened2` meets its contract: what form 2 tells, without the term before. Assumes nothing.
use borrow.Author.Rules.{rules}
use Rattle.salvaging.proofs.FormsLaws.{open_plain, open_refused}
use Rattle.salvaging.proofs.forms.opened2.Goals as goal

pub returns-in_err-opened : goal.returns-in_err-opened
returns-in_err-opened c = search (rules, open_refused)

pub returns : goal.returns
returns c = search (rules, open_plain)
