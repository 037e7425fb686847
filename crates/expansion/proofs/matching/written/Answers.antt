-- `written` meets its contract.
use Rattle.expansion.proofs.MatchTerms.{written_one, written-two}
use Rattle.expansion.proofs.matching.written.Goals as goal

pub returns-then-form-eq-FORM1 : goal.returns-then-form-eq-FORM1
returns-then-form-eq-FORM1 c = search written_one

pub returns : goal.returns
returns c = search written-two
