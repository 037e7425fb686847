-- `say_terms` meets its contract: each turn takes one term off what is still to be said. Assumes nothing.
use Rattle.listing.proofs.Terms.{Listing}
use Rattle.listing.proofs.say_terms.Given as goal

abbrev pub invariant-loop-step : goal.invariant-loop-step
invariant-loop-step l = Listing l.room l.initial.out l.initial.said l.roll l.initial.at l.out l.said l.at l.number

abbrev pub decreases-loop-step : goal.decreases-loop-step
decreases-loop-step l = l.at.left
