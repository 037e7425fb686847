-- `addend` meets its contract: a law for each case. Assumes nothing.
use Rattle.integrals.proofs.SumsLaws.{adds-plain, adds-nuclear}
use Rattle.integrals.proofs.sums.addend.Goals as goal

pub returns-in-Plain : goal.returns-in-Plain
returns-in-Plain c = search adds-plain

pub returns-in-Nuclear : goal.returns-in-Nuclear
returns-in-Nuclear c = search adds-nuclear
