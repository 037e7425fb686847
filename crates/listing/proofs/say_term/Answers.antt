-- `say_term` meets its contract: three pieces. Assumes nothing.
use Rattle.listing.proofs.Lines.{term-said}
use Rattle.listing.proofs.say_term.Goals as goal

pub returns : goal.returns
returns c = search term-said
