-- `with_terms` meets its contract.
use borrow.Author.Rules.{rules}
use Rattle.small.proofs.CheckLaws.{terms-may, terms-refused}
use Rattle.small.proofs.check.with_terms.Goals as goal

pub returns-in_err-judged : goal.returns-in_err-judged
returns-in_err-judged c = search (rules, terms-refused)

pub if_fresh-requires : goal.if_fresh-requires
if_fresh-requires c = search (rules, terms-may)
