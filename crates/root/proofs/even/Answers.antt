-- `even` meets its contract: an odd power gives one of its twos to the digits. Assumes nothing.
use Rattle.root.proofs.Parts.{even_power, odd_power}
use Rattle.root.proofs.even.Goals as goal

pub returns-then-power-eq0 : goal.returns-then-power-eq0
returns-then-power-eq0 c = search even_power

pub returns : goal.returns
returns c = search odd_power
