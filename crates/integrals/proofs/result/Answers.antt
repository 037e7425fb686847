-- `result` meets its contract: a law for each way out. Assumes nothing.
use Rattle.std.proofs.Common.{arith}
use Rattle.integrals.specs.Values.{refused_unless, result_of}
use Rattle.integrals.proofs.result.Goals as goal

pub returns-then-not-finite : goal.returns-then-not-finite
unfolding result_of refused_unless
returns-then-not-finite c = grind arith

pub returns : goal.returns
unfolding result_of refused_unless
returns c = grind arith
