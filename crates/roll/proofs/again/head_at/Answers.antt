-- `head_at` meets its contract: the short way gives what the other gives. Assumes nothing.
use Rattle.roll.proofs.AgainLaws.{short-given}
use Rattle.roll.proofs.again.head_at.Goals as goal

pub short_head-requires : goal.short_head-requires
short_head-requires c = search short-given
