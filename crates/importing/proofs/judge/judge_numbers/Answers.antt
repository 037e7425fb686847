-- `judge_numbers` meets its contract: the first line, then the others. Assumes nothing.
use mathlib.Core.Path.{refl}
use Rattle.importing.proofs.Judging.{first_small, first-adds, first-adds-one, numbers-judged, numbers-wrong}
use Rattle.importing.proofs.judge.judge_numbers.Goals as goal

pub overflow_add-first : goal.overflow_add-first
overflow_add-first c = record { fits = search first-adds-one }

pub overflow_add-first-2 : goal.overflow_add-first-2
overflow_add-first-2 c = record { fits = search first-adds }

pub judge_terms-requires : goal.judge_terms-requires
judge_terms-requires c = search first_small

pub returns : goal.returns
returns c = numbers-judged _ _ _ _ _ _ _ _ _ _ _ c.first_line.ensures c.in-Some.is c.orders.ensures c.length.ensures refl c.judge_terms.ensures

pub returns-in_default : goal.returns-in_default
returns-in_default c = rw c.refused.ensures (search numbers-wrong)
