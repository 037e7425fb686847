-- The piece always has room.
use Rattle.compare.proofs.Output.{piece-text}
use Rattle.compare.proofs.Ranges.{met-room}
use Rattle.compare.proofs.told_line.Goals as goal

pub returns : goal.returns
returns c = piece-text _ _ _ _ _ c.requires (met-room _ _ c.well_formed.0) c.line.ensures c.unwrap_or.ensures
