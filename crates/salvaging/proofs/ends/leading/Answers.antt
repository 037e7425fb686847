-- `leading` meets its contract: the bytes that are alike, and the terms that end within them. Assumes nothing.
use Rattle.salvaging.proofs.EndsLaws.{whole-behind, ends-behind}
use Rattle.salvaging.proofs.ends.leading.Goals as goal

pub ends_within-requires : goal.ends_within-requires
ends_within-requires c = search whole-behind

pub returns : goal.returns
returns c = search ends-behind
