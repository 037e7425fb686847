-- `say_terms` meets its contract: each turn takes one term off what is still to be said. Assumes nothing.
use Rattle.exporting.proofs.Terms.{terms-first, terms-count, terms-fall, terms-more, terms-done}
use Rattle.exporting.proofs.say_terms.Goals as goal

pub loop-step-init : goal.loop-step-init
loop-step-init c = search terms-first

pub say_term-said-requires : goal.say_term-said-requires
say_term-said-requires c = search terms-count

pub loop-step-smaller : goal.loop-step-smaller
loop-step-smaller c = search terms-fall

pub loop-step-preserved : goal.loop-step-preserved
loop-step-preserved c = search terms-more

pub returns : goal.returns
returns c = search terms-done
