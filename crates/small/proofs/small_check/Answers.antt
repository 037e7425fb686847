-- `small_check` meets its contract.
use Rattle.small.proofs.CheckLaws.{check-one, check-two}
use Rattle.small.proofs.small_check.Goals as goal

pub returns-then-is_form2 : goal.returns-then-is_form2
returns-then-is_form2 c = search check-two

pub returns : goal.returns
returns c = search check-one
