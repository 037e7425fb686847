-- `expanded` meets its contract: the expansion of the form. Assumes nothing.
use Rattle.salvaging.proofs.FormsLaws.{expand-one, expand-two}
use Rattle.salvaging.proofs.forms.expanded.Goals as goal

pub returns-in-One : goal.returns-in-One
returns-in-One c = search expand-one

pub returns-in-Two : goal.returns-in-Two
returns-in-Two c = search expand-two
