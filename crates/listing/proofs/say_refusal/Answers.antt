-- `say_refusal` meets its contract: the pieces with a place and without one. Assumes nothing.
use Rattle.listing.proofs.Lines.{refusal-placed, refusal-plain}
use Rattle.listing.proofs.say_refusal.Goals as goal

pub returns-then-carries_place : goal.returns-then-carries_place
returns-then-carries_place c = search refusal-placed

pub returns : goal.returns
returns c = search refusal-plain
