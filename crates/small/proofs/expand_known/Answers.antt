-- `expand_known` meets its contract.
use Rattle.small.proofs.ExpandLaws.{told-high, told-unused, told-outside, told-within}
use Rattle.small.proofs.expand_known.Goals as goal

pub returns-then-too_high : goal.returns-then-too_high
returns-then-too_high c = search told-high

pub returns-then-unused_set : goal.returns-then-unused_set
returns-then-unused_set c = search told-unused

pub returns-then-not-is_small : goal.returns-then-not-is_small
returns-then-not-is_small c = search told-outside

pub returns : goal.returns
returns c = search told-within
