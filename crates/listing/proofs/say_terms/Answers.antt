-- `say_terms` meets its contract: each turn takes one term off what is still to be said. Assumes nothing.
use Rattle.listing.proofs.Terms.{listing-first, listing-count, listing-fits, listing-falls, listing-more, listing-done}
use Rattle.listing.proofs.say_terms.Goals as goal

pub loop-step-init : goal.loop-step-init
loop-step-init c = search listing-first

pub say_term-said-requires : goal.say_term-said-requires
say_term-said-requires c = search listing-count

pub overflow_add-number : goal.overflow_add-number
overflow_add-number c = record { fits = search listing-fits }

pub loop-step-smaller : goal.loop-step-smaller
loop-step-smaller c = search listing-falls

pub loop-step-preserved : goal.loop-step-preserved
loop-step-preserved c = search listing-more

pub returns : goal.returns
returns c = search listing-done
