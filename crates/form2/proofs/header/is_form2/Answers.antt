-- `is_form2` meets its contract: by the first byte. Assumes nothing.
use Rattle.form2.proofs.HeaderLaws.{form2-empty, form2-low, form2-high}
use Rattle.form2.proofs.header.is_form2.Goals as goal

pub returns-then-roll-eq0 : goal.returns-then-roll-eq0
returns-then-roll-eq0 c = search form2-empty

pub returns-then-first-lt-FORM_TWO : goal.returns-then-first-lt-FORM_TWO
returns-then-first-lt-FORM_TWO c = search form2-low

pub returns : goal.returns
returns c = search form2-high
