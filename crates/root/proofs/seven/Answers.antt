-- `seven` meets its contract: each digit takes two of the number's. Assumes nothing.
use Rattle.root.proofs.Parts.{seven-digits}
use Rattle.root.proofs.seven.Goals as goal

pub returns : goal.returns
returns c = search seven-digits
