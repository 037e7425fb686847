-- `end_at` meets its contract: the short way gives what the head gives. Assumes nothing.
use Rattle.roll.proofs.AgainLaws.{short-given, head-end}
use Rattle.roll.proofs.again.end_at.Goals as goal

pub short_end-requires : goal.short_end-requires
short_end-requires c = search short-given

pub returns : goal.returns
returns c = search head-end
