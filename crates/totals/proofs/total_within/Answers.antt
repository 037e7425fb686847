-- `total_within` meets its contract.
use Rattle.totals.proofs.AnswerLaws.{claimed-is}
use Rattle.totals.proofs.total_within.Goals as goal

pub returns-in-Overlap : goal.returns-in-Overlap
returns-in-Overlap c = search claimed-is
