-- `whole` meets its contract: each root has at least as many digits as are to follow. Assumes nothing.
use lib.Dec.{lit<}
use Rattle.root.proofs.Wholes.{whole-seven, whole-fourteen, whole-half, whole-done}
use Rattle.root.proofs.whole.Goals as goal

pub further-fourteen-requires : goal.further-fourteen-requires
further-fourteen-requires c = search whole-seven

pub further-half-requires : goal.further-half-requires
further-half-requires c = search whole-fourteen

pub further-requires : goal.further-requires
further-requires c = search (whole-half, lit<)

pub returns : goal.returns
returns c = search whole-done
