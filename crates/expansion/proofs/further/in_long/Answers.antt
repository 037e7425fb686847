-- `in_long` meets its contract.
use Rattle.expansion.proofs.FurtherWords.{path-long, part-first, sum-small, part_then}
use Rattle.expansion.proofs.further.in_long.Goals as goal

pub returns-then-count-le12 : goal.returns-then-count-le12
returns-then-count-le12 c = search path-long

pub returns-then-first-lt12 : goal.returns-then-first-lt12
returns-then-first-lt12 c = search part-first

pub overflow_add-result : goal.overflow_add-result
overflow_add-result c = record { fits = search sum-small }

pub returns : goal.returns
returns c = search part_then
