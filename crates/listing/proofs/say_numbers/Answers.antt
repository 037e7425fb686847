-- `say_numbers` meets its contract: four pieces. Assumes nothing.
use Rattle.listing.proofs.Lines.{numbers-said}
use Rattle.listing.proofs.say_numbers.Goals as goal

pub returns : goal.returns
returns c = search numbers-said
