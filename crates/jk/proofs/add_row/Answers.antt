-- `add_row` meets its contract: the sum goes on from where it stands. Assumes nothing.
use native.Mathlib.Nat.{sub-zero}
use Rattle.jk.proofs.Sums.{sigma-more, sigma-done}
use Rattle.jk.proofs.add_row.Goals as goal

pub loop-sigma-init : goal.loop-sigma-init
loop-sigma-init c = rw sub-zero

pub loop-sigma-preserved : goal.loop-sigma-preserved
loop-sigma-preserved c = search sigma-more

pub returns : goal.returns
returns c = search sigma-done
