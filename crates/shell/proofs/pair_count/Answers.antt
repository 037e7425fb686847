-- `pair_count` meets its contract: one count times the other. Assumes nothing.
use Rattle.shell.proofs.Places.{product-fits, counts-beside}
use Rattle.shell.proofs.pair_count.Goals as goal

pub overflow_mul-result : goal.overflow_mul-result
overflow_mul-result c = search product-fits

pub returns : goal.returns
returns c = search counts-beside
