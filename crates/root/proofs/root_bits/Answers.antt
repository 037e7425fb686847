-- `root_bits` meets its contract: the parts are put together as the bits of the definition's nearest root. Assumes nothing.
use Rattle.root.proofs.Answers.{root-bits-told}
use Rattle.root.proofs.root_bits.Goals as goal

pub returns : goal.returns
returns c = search root-bits-told
