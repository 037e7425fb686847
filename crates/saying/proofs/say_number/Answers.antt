-- `say_number` meets its contract: a decimal written where it has room is a piece said. Assumes nothing.
use Rattle.saying.proofs.Pieces.{piece-put, piece-none}
use Rattle.saying.proofs.say_number.Goals as goal

pub returns-in_err-at : goal.returns-in_err-at
returns-in_err-at c = piece-none _ _ _ _ _ c.in_err-at.was c.from_residual.ensures

pub returns : goal.returns
returns c = piece-put _ _ _ _ _ _ _ _ _ c.in_ok-at.was c.decimal.ensures c.places.ensures c.advance.ensures
