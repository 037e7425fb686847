-- `numbered` meets its contract: 13 from the product of the counts on. Assumes nothing.
use borrow.Author.Rules.{rules}
use Rattle.shell.proofs.Components.{component-past, component-found}
use Rattle.shell.proofs.Places.{product-fits, beside-inside}
use Rattle.shell.proofs.numbered.Goals as goal

pub overflow_mul-pair_count : goal.overflow_mul-pair_count
overflow_mul-pair_count c = search product-fits

pub returns-then-pair_count-number : goal.returns-then-pair_count-number
returns-then-pair_count-number c = search component-past

pub quadruple_at-requires : goal.quadruple_at-requires
quadruple_at-requires c = (search rules, search rules, search rules, search beside-inside)

pub returns : goal.returns
returns c = search component-found
