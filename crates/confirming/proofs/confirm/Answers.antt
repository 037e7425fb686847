-- `confirm` meets its contract: in the form that the first byte tells. Assumes nothing.
use Rattle.confirming.proofs.ConfirmLaws.{confirm-told}
use Rattle.confirming.proofs.confirm.Goals as goal

pub returns-in-Some : goal.returns-in-Some
returns-in-Some c = search confirm-told

pub returns-in-None : goal.returns-in-None
returns-in-None c = search confirm-told
