-- `open2` meets its contract. Assumes nothing.
use borrow.Author.Rules.{rules}
use Rattle.form2.proofs.HeaderLaws.{open2-is, open2-not}
use Rattle.form2.proofs.header.open2.Goals as goal

pub returns-in_err-opened : goal.returns-in_err-opened
returns-in_err-opened c = search (rules, open2-not)

pub returns : goal.returns
returns c = search (rules, open2-is)
