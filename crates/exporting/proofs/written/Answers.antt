-- `written` meets its contract: a law for each answer. Assumes nothing.
use Rattle.listing.proofs.Telling.{told-beyond, told_text, told-full}
use Rattle.exporting.proofs.written.Goals as goal

pub returns-then-out-start : goal.returns-then-out-start
returns-then-out-start c = rw c.from.ensures (search told-beyond)

pub returns : goal.returns
returns c = search told_text

pub returns-in_default : goal.returns-in_default
returns-in_default c = rw c.from-in_default.ensures (search told-full)
