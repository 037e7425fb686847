-- `put_term` meets its contract: scale and Boys order, the count, the prefactors. Assumes nothing.
use Rattle.importing.proofs.Putting.{term-room-head, term-room-count, term-room-rest, term-put}
use Rattle.importing.proofs.writing.put_term.Goals as goal

pub copy-headed-requires : goal.copy-headed-requires
copy-headed-requires c = search term-room-head

pub put-counted-requires : goal.put-counted-requires
put-counted-requires c = search term-room-count

pub copy-ended-requires : goal.copy-ended-requires
copy-ended-requires c = search term-room-rest

pub returns : goal.returns
returns c = search term-put
