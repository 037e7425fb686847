-- `is_small_number` meets its contract.
use Rattle.small.proofs.CheckLaws.{named_small}
use Rattle.small.proofs.profile.is_small_number.Goals as goal

pub returns-in-Some : goal.returns-in-Some
returns-in-Some c = search named_small
