-- `opened_of` meets its contract.
use Rattle.confirming.proofs.QuickLaws.{sum-small, place-fits, place-whole, opened-made}
use Rattle.confirming.proofs.quick.opened_of.Goals as goal

pub overflow_add-cursor : goal.overflow_add-cursor
overflow_add-cursor c = record { fits = search place-fits }

pub overflow_add-cursor-2 : goal.overflow_add-cursor-2
overflow_add-cursor-2 c = record { fits = search place-whole }

pub overflow_cast-cursor : goal.overflow_cast-cursor
overflow_cast-cursor c = record { fits = search sum-small }

pub returns : goal.returns
returns c = search opened-made
