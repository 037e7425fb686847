-- `put` meets its contract: there is room. Assumes nothing.
use Rattle.importing.proofs.Putting.{put-written}
use Rattle.importing.proofs.writing.put.Goals as goal

pub returns : goal.returns
returns c = search put-written
