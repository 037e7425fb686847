-- `write` meets its contract: nothing is stored without room, all of it with room. Assumes nothing.
use native.Mathlib.Omega.{arith}
use Rattle.number.specs.Numbers.{length_of}
use Rattle.number.proofs.Writing.{wrote_none, wrote-all}
use Rattle.number.proofs.write.Goals as goal

pub returns-then-out-at : goal.returns-then-out-at
unfolding length_of
returns-then-out-at c = wrote_none _ _ _ (omega arith)

pub returns-then-out-at-2 : goal.returns-then-out-at-2
unfolding length_of
returns-then-out-at-2 c = wrote_none _ _ _ (omega arith)

pub returns : goal.returns
unfolding length_of
returns c = wrote-all _ _ _ _ _ (omega arith) c.put.ensures.0 c.put.ensures.1
