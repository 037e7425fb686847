-- `say_kind` meets its contract: two pieces. Assumes nothing.
use Rattle.exporting.proofs.Lines.{kind-said}
use Rattle.exporting.proofs.say_kind.Goals as goal

pub returns : goal.returns
returns c = search kind-said
