-- `write_sized` meets its contract.
use Rattle.expansion.proofs.Answers.{long-may, roll-may, told-roll, told-full}
use Rattle.expansion.proofs.write_sized.Goals as goal

pub fits-requires : goal.fits-requires
fits-requires c = search long-may

pub returns-then-not-fits : goal.returns-then-not-fits
returns-then-not-fits c = search told-full

pub put_roll-length-requires : goal.put_roll-length-requires
put_roll-length-requires c = search roll-may

pub returns : goal.returns
returns c = search told-roll
