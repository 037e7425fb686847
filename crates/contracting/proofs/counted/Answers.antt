-- `counted` meets its contract: one at least, and ten at most. Assumes nothing.
use Rattle.contracting.proofs.Answers.{counted_none, counted-both}
use Rattle.contracting.proofs.counted.Goals as goal

pub returns-then-count-lt1 : goal.returns-then-count-lt1
returns-then-count-lt1 c = search counted_none

pub returns : goal.returns
returns c = search counted-both
