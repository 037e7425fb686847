-- `text::read_decimal` meets its contract: a run has as many digits as its number, or leading zeros. Assumes nothing.
use native.Mathlib.Omega.{arith}
use Rattle.std.proofs.lemmas.Grind.{common_steps}
use Rattle.text.specs.Reading.{decimal_at}
use Rattle.text.proofs.Reading.{after-start, run_is}
use Rattle.text.proofs.read_decimal.Goals as goal

pub returns-in_err-n : goal.returns-in_err-n
unfolding decimal_at
returns-in_err-n c = grind (arith, common_steps, c.in_err-n.ensures)

pub overflow_sub-next : goal.overflow_sub-next
overflow_sub-next c = after-start _ _ _ _ _ c.in_ok-n.ensures

pub returns-then-places-next : goal.returns-then-places-next
unfolding decimal_at
returns-then-places-next c = let is = run_is _ _ _ _ _ c.in_ok-n.ensures in grind (arith, common_steps)

pub returns : goal.returns
unfolding decimal_at
returns c = let is = run_is _ _ _ _ _ c.in_ok-n.ensures in grind (arith, common_steps, c.in_ok-n.ensures)
