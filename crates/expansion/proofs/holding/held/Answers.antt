-- `held` meets its contract: what stands before the terms, then these.
use Rattle.expansion.proofs.AgainstLaws.{head-fits, head-whole, head-counted, head-differs, head-same}
use borrow.Author.Rules.{rules}
use Rattle.expansion.proofs.holding.held.Goals as goal

pub put_head-all-requires : goal.put_head-all-requires
put_head-all-requires c = search (head-fits, rules)

pub slice_bounds-bytes-end : goal.slice_bounds-bytes-end
slice_bounds-bytes-end c = search (head-whole, rules)

pub slice_bounds-alike-end : goal.slice_bounds-alike-end
slice_bounds-alike-end c = search (head-counted, rules)

pub returns-then-same-all : goal.returns-then-same-all
returns-then-same-all c = search (head-differs, rules)

pub held_terms-requires : goal.held_terms-requires
held_terms-requires c = record { count_may = search; head_same = search (head-same, rules) }
