-- `say_kind` meets its contract: three pieces. Assumes nothing.
use Rattle.listing.proofs.Lines.{kind-said}
use Rattle.listing.proofs.say_kind.Goals as goal

pub returns : goal.returns
returns c = search kind-said
