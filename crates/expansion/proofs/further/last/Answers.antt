-- `last` meets its contract.
use Rattle.expansion.proofs.FurtherWords.{some-digits, last_digits}
use borrow.Author.Rules.{rules}
use Rattle.expansion.proofs.further.last.Goals as goal

pub nonzero_rem-result : goal.nonzero_rem-result
nonzero_rem-result c = search (rules, some-digits)

pub returns : goal.returns
returns c = search last_digits
