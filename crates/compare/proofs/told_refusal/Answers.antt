-- The piece always has room.
use Rattle.compare.proofs.Output.{piece-text}
use Rattle.compare.proofs.Ranges.{refusal-room}
use Rattle.compare.proofs.told_refusal.Goals as goal

pub returns : goal.returns
returns c = piece-text _ _ _ _ _ c.requires (refusal-room _ _ c.well_formed.0) c.refusal_line.ensures c.unwrap_or.ensures
