-- `put_prefactors` meets its contract.
use Rattle.expansion.proofs.TermsBytes.{prefactors-few, prefactors-many}
use Rattle.expansion.proofs.terms.put_prefactors.Goals as goal

pub returns-then-count-le12 : goal.returns-then-count-le12
returns-then-count-le12 c = search prefactors-few

pub returns : goal.returns
returns c = search prefactors-many
