-- The line of a refusal always has room.
use mathlib.Core.Path.{sym}
use Rattle.list.proofs.Output.{refused-text, refused-never}
use Rattle.list.proofs.refused.Goals as goal

pub returns-in-Ok : goal.returns-in-Ok
returns-in-Ok c = rw (sym c.from.ensures) (refused-text _ _ _ _ _ _ c.requires c.from.type_inv c.ranges.place.fits c.refusal_line.ensures c.in-Ok.is)

pub returns-in-Err : goal.returns-in-Err
returns-in-Err c = rw (sym c.from.ensures) (refused-never _ _ _ _ _ _ c.requires c.from.type_inv c.ranges.place.fits c.refusal_line.ensures c.in-Err.is)
