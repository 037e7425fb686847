-- `long` meets its contract: the code's squares are the definition's powers. Assumes nothing.
use Rattle.std.proofs.Common.{arith}
use Rattle.std.proofs.lemmas.Bool.Decides.{nat_tests}
use Rattle.laws.proofs.Counting.{pow-two, pow-four}
use Rattle.jk.specs.Outcome.{long_of}
use Rattle.jk.proofs.long.Goals as goal

pub returns-then-j-square : goal.returns-then-j-square
unfolding long_of
returns-then-j-square c = grind (arith, nat_tests, pow-two, pow-four)

pub returns-else-j-square : goal.returns-else-j-square
unfolding long_of
returns-else-j-square c = grind (arith, nat_tests, pow-two, pow-four)
