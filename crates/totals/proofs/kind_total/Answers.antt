-- `kind_total` meets its contract.
use Rattle.totals.proofs.AnswerLaws.{total-high, total-unused, within-may, total-known}
use Rattle.totals.proofs.kind_total.Goals as goal

pub returns-then-too_high : goal.returns-then-too_high
returns-then-too_high c = search total-high

pub returns-then-unused_set : goal.returns-then-unused_set
returns-then-unused_set c = search total-unused

pub total_within-requires : goal.total_within-requires
total_within-requires c = search within-may

pub returns : goal.returns
returns c = search total-known
