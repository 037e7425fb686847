-- `used` meets its contract: by the kind. Assumes nothing.
use Rattle.comparing.proofs.DifferLaws.{used-is, used-unknown}
use Rattle.comparing.proofs.differ.used.Goals as goal

pub returns-in-Some : goal.returns-in-Some
returns-in-Some c = search used-is

pub returns-in-None : goal.returns-in-None
returns-in-None c = search used-unknown
