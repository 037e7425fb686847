-- `say_term` meets its contract: three pieces. Assumes nothing.
use Rattle.exporting.proofs.Lines.{term-said}
use Rattle.exporting.proofs.say_term.Goals as goal

pub returns : goal.returns
returns c = search term-said
