-- `jk_by_entry` meets its contract: each check, or both matrices. Assumes nothing.
use Rattle.std.proofs.Common.{arith}
use Rattle.std.proofs.lemmas.Bool.Decides.{nat_tests}
use Rattle.laws.specs.Unless.{unless}
use Rattle.laws.proofs.Counting.{pow-two, pow-four}
use Rattle.jk.specs.Outcome.{long_of, sized_of, jk_of}
use Rattle.jk.proofs.jk_by_entry.Goals as goal

pub returns-then-not-sized : goal.returns-then-not-sized
unfolding jk_of unless
returns-then-not-sized c = grind arith

pub returns-then-not-both_finite : goal.returns-then-not-both_finite
unfolding jk_of unless
returns-then-not-both_finite c = grind arith

pub write-requires : goal.write-requires
unfolding sized_of long_of
write-requires c = (
  record {
    some = grind (arith, nat_tests);
    small = grind (arith, nat_tests);
    whole = grind (arith, nat_tests, pow-two, pow-four);
    square = grind (arith, nat_tests, pow-two, pow-four);
  },
  grind (arith, nat_tests, pow-two, pow-four),
  grind (arith, nat_tests, pow-two, pow-four),
)

pub returns : goal.returns
unfolding jk_of unless
returns c = grind arith
