-- `boys_at` meets its contract: the short way gives what the head gives. Assumes nothing.
use Rattle.roll.proofs.AgainLaws.{short-given, head-boys}
use Rattle.roll.proofs.again.boys_at.Goals as goal

pub short_boys-requires : goal.short_boys-requires
short_boys-requires c = search short-given

pub returns : goal.returns
returns c = search head-boys
