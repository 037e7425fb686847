-- `begins` meets its contract.
use Rattle.expansion.proofs.HeaderLaws.{form-one, form-two}
use Rattle.expansion.proofs.header.begins.Goals as goal

pub returns-then-form-eq-FORM1 : goal.returns-then-form-eq-FORM1
returns-then-form-eq-FORM1 c = search form-one

pub returns-else-form-eq-FORM1 : goal.returns-else-form-eq-FORM1
returns-else-form-eq-FORM1 c = search form-two
