-- The piece always has room.
use Rattle.compare.proofs.Output.{piece-text}
use Rattle.compare.proofs.Ranges.{head-room}
use Rattle.compare.proofs.told_rolls.Goals as goal

pub returns : goal.returns
returns c = piece-text _ _ _ _ _ c.requires (head-room _ _ c.well_formed.0) c.head.ensures c.unwrap_or.ensures
