-- `kinetic_of` meets its contract: the callees' promises put into the definition. Assumes nothing.
use Rattle.integrals.proofs.Values.{kinetic-made}
use Rattle.integrals.proofs.kinetic_of.Goals as goal

pub returns : goal.returns
returns c = search kinetic-made
