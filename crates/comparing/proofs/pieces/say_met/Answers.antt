-- `say_met` meets its contract: by the sides that have a term. Assumes nothing.
use Rattle.comparing.proofs.SaysLaws.{met-both, met-left, met-right}
use Rattle.comparing.proofs.pieces.say_met.Goals as goal

pub returns-in-Both : goal.returns-in-Both
returns-in-Both c = search met-both

pub returns-in-Left : goal.returns-in-Left
returns-in-Left c = search met-left

pub returns-in-Right : goal.returns-in-Right
returns-in-Right c = search met-right
