-- `held` meets its contract: by the form.
use Rattle.confirming.proofs.QuickLaws.{held_one, held_two}
use Rattle.confirming.proofs.reading.held.Goals as goal

pub returns-in-One : goal.returns-in-One
returns-in-One c = search held_one

pub returns-in-Two : goal.returns-in-Two
returns-in-Two c = search held_two
