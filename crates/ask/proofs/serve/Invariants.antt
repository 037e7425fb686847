-- `serve` is safe and ends: the turns left fall. Assumes nothing.
use Rattle.ask.proofs.serve.Given as goal

abbrev pub decreases-loop-turns : goal.decreases-loop-turns
decreases-loop-turns g l = l.turns
