-- `text::read_hex` meets its contract: a run of one to sixteen digits is a number, any other is none. Assumes nothing.
use native.Mathlib.Omega.{arith}
use Rattle.std.proofs.lemmas.Grind.{common_steps}
use Rattle.text.specs.Reading.{hex_at}
use Rattle.text.proofs.Reading.{after-start, run_is}
use Rattle.text.proofs.read_hex.Goals as goal

pub returns-in_err-n : goal.returns-in_err-n
unfolding hex_at
returns-in_err-n c = grind (arith, common_steps, c.in_err-n.ensures)

pub overflow_sub-next : goal.overflow_sub-next
overflow_sub-next c = after-start _ _ _ _ _ c.in_ok-n.ensures

pub returns-then-next-at : goal.returns-then-next-at
unfolding hex_at
returns-then-next-at c = let is = run_is _ _ _ _ _ c.in_ok-n.ensures in grind (arith, common_steps)

pub returns : goal.returns
unfolding hex_at
returns c = let is = run_is _ _ _ _ _ c.in_ok-n.ensures in grind (arith, common_steps, c.in_ok-n.ensures)
