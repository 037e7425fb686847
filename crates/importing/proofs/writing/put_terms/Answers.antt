-- `put_terms` meets its contract: what is still to be written, put down here, is the whole put down at the start. Assumes nothing.
use Rattle.importing.proofs.Putting.{terms-first, terms-room, terms-more, terms-broken, terms-done}
use Rattle.importing.proofs.writing.put_terms.Goals as goal

pub loop-done-init : goal.loop-done-init
loop-done-init c = search terms-first

pub put_term-to-requires : goal.put_term-to-requires
put_term-to-requires c = search terms-room

pub loop-done-preserved : goal.loop-done-preserved
loop-done-preserved c = search terms-more

pub returns-in_default : goal.returns-in_default
returns-in_default c = search terms-broken

pub returns : goal.returns
returns c = search terms-done
