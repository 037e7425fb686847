-- `say_refusal` meets its contract: the pieces with a line number and without one. Assumes nothing.
use Rattle.importing.proofs.Refusals.{refusal-numbered, refusal-plain}
use Rattle.importing.proofs.telling.say_refusal.Goals as goal

pub returns-then-carries_line : goal.returns-then-carries_line
returns-then-carries_line c = search refusal-numbered

pub returns : goal.returns
returns c = search refusal-plain
