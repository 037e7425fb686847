-- `put_roll` meets its contract: the first line, then the terms. Assumes nothing.
use Rattle.importing.proofs.Putting.{roll-room-head, roll-room-terms, roll-put, roll-broken}
use Rattle.importing.proofs.writing.put_roll.Goals as goal

pub copy-headed-requires : goal.copy-headed-requires
copy-headed-requires c = search roll-room-head

pub put_terms-requires : goal.put_terms-requires
put_terms-requires c = search roll-room-terms

pub returns-in-Some : goal.returns-in-Some
returns-in-Some c = search roll-put

pub returns-in_default : goal.returns-in_default
returns-in_default c = search roll-broken
