-- `say` meets its contract: bytes put down where they have room are a piece said. Assumes nothing.
use mathlib.Core.Path.{refl}
use Rattle.saying.proofs.Pieces.{piece-put, piece-none}
use Rattle.saying.proofs.say.Goals as goal

pub returns-in_err-at : goal.returns-in_err-at
returns-in_err-at c = piece-none _ _ _ _ _ c.in_err-at.was c.from_residual.ensures

pub returns : goal.returns
returns c = piece-put _ _ _ _ _ _ _ _ _ c.in_ok-at.was c.put.ensures refl c.advance.ensures
