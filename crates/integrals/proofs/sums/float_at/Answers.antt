-- `float_at` meets its contract: within the list any default reads the same. Assumes nothing.
use Rattle.integrals.proofs.SumsLaws.{read-inside, read-outside}
use Rattle.integrals.proofs.sums.float_at.Goals as goal

pub returns-then-at-floats : goal.returns-then-at-floats
returns-then-at-floats c = search read-inside

pub returns-else-at-floats : goal.returns-else-at-floats
returns-else-at-floats c = search read-outside
