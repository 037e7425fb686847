-- `from_cursor` meets its contract: a kind's terms, or no kind. Assumes nothing.
use Rattle.integrals.specs.inner.Stored.{of_cursor}
use Rattle.integrals.proofs.from_cursor.Goals as goal

pub returns-in_default : goal.returns-in_default
unfolding of_cursor
returns-in_default c = rw (← c.in_default.ensures)

pub returns : goal.returns
unfolding of_cursor
returns c = rw (← c.in-Some.ensures) c.judged.ensures
