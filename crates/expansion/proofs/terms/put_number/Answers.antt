-- `put_number` meets its contract.
use Rattle.expansion.proofs.TermsBytes.{number-inside, number-one, number-next}
use Rattle.expansion.proofs.terms.put_number.Goals as goal

pub bounds-out-at : goal.bounds-out-at
bounds-out-at c = search number-inside

pub returns-then-n-lt128 : goal.returns-then-n-lt128
returns-then-n-lt128 c = search number-one

pub returns : goal.returns
returns c = search number-next
