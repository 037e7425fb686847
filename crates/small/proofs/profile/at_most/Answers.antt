-- `at_most` meets its contract.
use Rattle.small.proofs.ProfileLaws.{sum-at-most}
use Rattle.small.proofs.profile.at_most.Goals as goal

pub returns : goal.returns
returns c = search sum-at-most
