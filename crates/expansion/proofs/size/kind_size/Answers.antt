-- `kind_size` meets its contract.
use Rattle.expansion.proofs.Answers.{measured-high, measured-unused, kept-nibbles, kept_word}
use Rattle.expansion.proofs.size.kind_size.Goals as goal

pub returns-then-too_high : goal.returns-then-too_high
returns-then-too_high c = search measured-high

pub returns-then-unused_set : goal.returns-then-unused_set
returns-then-unused_set c = search measured-unused

pub packed-left-requires : goal.packed-left-requires
packed-left-requires c = search kept-nibbles

pub sized-requires : goal.sized-requires
sized-requires c = search kept_word
