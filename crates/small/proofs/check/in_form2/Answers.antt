-- `in_form2` meets its contract.
use borrow.Author.Rules.{rules}
use Rattle.small.proofs.CheckLaws.{form2-outside, form2-refused}
use Rattle.small.proofs.check.in_form2.Goals as goal

pub returns-in_err-open2 : goal.returns-in_err-open2
returns-in_err-open2 c = search (rules, form2-refused)

pub returns : goal.returns
returns c = search (rules, form2-outside)
