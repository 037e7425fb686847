-- The bytes that may follow fall.
use Rattle.number.proofs.+higher.Given as goal

abbrev pub decreases-higher : goal.decreases-higher
decreases-higher l = l.more
