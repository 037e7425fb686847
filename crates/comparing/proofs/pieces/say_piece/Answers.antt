-- `say_piece` meets its contract: at the end nothing is said. Assumes nothing.
use Rattle.comparing.proofs.SaysLaws.{end-said}
use Rattle.comparing.proofs.pieces.say_piece.Goals as goal

pub returns-in-End : goal.returns-in-End
returns-in-End c = search end-said
