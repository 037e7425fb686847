-- `put_digits` meets its contract.
use Rattle.expansion.proofs.TermsWords.{putting-first, putting-more, putting-last}
use Rattle.expansion.proofs.terms.put_digits.Goals as goal

pub loop-i-init : goal.loop-i-init
loop-i-init c = search putting-first

pub loop-i-preserved : goal.loop-i-preserved
loop-i-preserved c = search putting-more

pub shape_of-out : goal.shape_of-out
shape_of-out c = search

pub returns : goal.returns
returns c = search putting-last
