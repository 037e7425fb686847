-- `sized` meets its contract: the tests in their order. Assumes nothing.
use Rattle.std.proofs.Common.{arith}
use Rattle.std.proofs.lemmas.Bool.Decides.{nat_tests}
use Rattle.jk.specs.Outcome.{sized_of}
use Rattle.jk.proofs.sized.Goals as goal

pub returns-then-n-le-MOST_SIZE : goal.returns-then-n-le-MOST_SIZE
unfolding sized_of
returns-then-n-le-MOST_SIZE c = grind (arith, nat_tests)

pub returns-else-n-le-MOST_SIZE : goal.returns-else-n-le-MOST_SIZE
unfolding sized_of
returns-else-n-le-MOST_SIZE c = grind (arith, nat_tests)
