-- `form_of` meets its contract: by form 2's own test. Assumes nothing.
use Rattle.salvaging.proofs.FormsLaws.{form-two, form-one}
use Rattle.salvaging.proofs.forms.form_of.Goals as goal

pub returns-then-is_form2 : goal.returns-then-is_form2
returns-then-is_form2 c = search form-two

pub returns : goal.returns
returns c = search form-one
