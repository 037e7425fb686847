-- `fits` meets its contract: the roll and a byte a term have room, or what was measured. Assumes nothing.
use Rattle.form2.proofs.MovedLaws.{fits-sure2, fits-measured2}
use Rattle.form2.proofs.shorter.fits.Goals as goal

pub returns-then-has_room : goal.returns-then-has_room
returns-then-has_room c = search fits-sure2

pub returns : goal.returns
returns c = search fits-measured2
