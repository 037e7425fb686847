-- `write` meets its contract: 5, 6, or the roll. Assumes nothing.
use Rattle.form2.proofs.MovedLaws.{beyond2, full2, moved2}
use Rattle.form2.proofs.shorter.write.Goals as goal

pub returns-then-out-start : goal.returns-then-out-start
returns-then-out-start c = rw c.start_beyond_end.ensures (beyond2 _ _ c.requires _ _ c.if-out-start.true)

pub returns-then-fits : goal.returns-then-fits
returns-then-fits c = moved2 _ _ c.requires _ _ _ c.if-out-start.false c.fits.ensures _ _ c.if-fits.true c.put_roll-length.ensures

pub returns : goal.returns
returns c = rw c.no_room.ensures (full2 _ _ c.requires _ _ _ c.if-out-start.false c.fits.ensures c.if-fits.false)
