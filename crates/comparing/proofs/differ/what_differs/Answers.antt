-- `what_differs` meets its contract: both rolls read. Assumes nothing.
use Rattle.comparing.proofs.Answered.{what-differs}
use Rattle.comparing.proofs.differ.what_differs.Goals as goal

pub returns : goal.returns
returns c = search what-differs
