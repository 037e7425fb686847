-- `in_form1` meets its contract.
use borrow.Author.Rules.{rules}
use Rattle.small.proofs.CheckLaws.{header-may, header_refused}
use Rattle.small.proofs.check.in_form1.Goals as goal

pub returns-in_err-opened : goal.returns-in_err-opened
returns-in_err-opened c = search (rules, header_refused)

pub of_header-requires : goal.of_header-requires
of_header-requires c = search (rules, header-may)
