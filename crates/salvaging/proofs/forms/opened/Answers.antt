-- `opened` meets its contract: the header of the form. Assumes nothing.
use Rattle.salvaging.proofs.FormsLaws.{open-one, open-two}
use Rattle.salvaging.proofs.forms.opened.Goals as goal

pub returns-in-One : goal.returns-in-One
returns-in-One c = search open-one

pub returns-in-Two : goal.returns-in-Two
returns-in-Two c = search open-two
