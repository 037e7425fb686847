-- `text::places` meets its contract: the power of ten that a number reaches says how many digits it has. Assumes nothing.
use Rattle.text.proofs.Digits.{places-power}
use Rattle.text.proofs.places.Goals as goal

pub returns : goal.returns
returns c = search places-power
