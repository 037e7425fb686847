-- `same_held` meets its contract: part by part. Assumes nothing.
use native.Mathlib.Omega.{arith}
use Rattle.std.proofs.lemmas.Bool.Decides.{nat_tests}
use Rattle.comparing.specs.Pairs.{same_held}
use Rattle.comparing.proofs.PairLaws.{numbers-pointwise}
use Rattle.comparing.proofs.pair.same_held.Goals as goal

pub returns-then-left-right-3 : goal.returns-then-left-right-3
unfolding same_held
returns-then-left-right-3 c = let is = numbers-pointwise c.args.left.now.prefactors c.args.right.now.prefactors in grind (arith, nat_tests, c.eq.ensures)

pub returns-else-left-right-3 : goal.returns-else-left-right-3
unfolding same_held
returns-else-left-right-3 c = grind (arith, nat_tests)
