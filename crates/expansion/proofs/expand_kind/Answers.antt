-- `expand_kind` meets its contract.
use Rattle.expansion.proofs.Answers.{told-high, told-unused, told-beyond, request-may}
use Rattle.expansion.proofs.expand_kind.Goals as goal

pub returns-then-too_high : goal.returns-then-too_high
returns-then-too_high c = search told-high

pub returns-then-unused_set : goal.returns-then-unused_set
returns-then-unused_set c = search told-unused

pub returns-then-out-start : goal.returns-then-out-start
returns-then-out-start c = search told-beyond

pub expand_within-requires : goal.expand_within-requires
expand_within-requires c = search request-may
