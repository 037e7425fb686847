-- `write` meets its contract: 11, or both matrices. Assumes nothing.
use Rattle.std.proofs.Common.{arith}
use Rattle.laws.specs.Unless.{unless}
use Rattle.jk.specs.Outcome.{summed_of}
use Rattle.jk.proofs.write.Goals as goal

pub returns-then-not-both_finite : goal.returns-then-not-both_finite
unfolding summed_of unless
returns-then-not-both_finite c = grind arith

pub returns : goal.returns
unfolding summed_of unless
returns c = grind arith
