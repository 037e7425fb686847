-- `text::read_run` meets its contract: at each turn the value so far and the digits left give the whole run's. Assumes nothing.
use Prim.Native.Nat.{◌+◌, ◌*◌, ◌^◌, ◌≤◌}
use native.Mathlib.Omega.{arith}
use mathlib.Core.Path.{◌∙◌}
use Rattle.text.proofs.Reading.{upto-start, upto-more, read-stop, read_past, read-over}
use Rattle.text.proofs.read_run.Goals as goal

pub loop-i-init : goal.loop-i-init
loop-i-init c = upto-start _ _ _

pub returns-then-base-d : goal.returns-then-base-d
returns-then-base-d c = search read-stop

pub returns-in_err-checked_mul : goal.returns-in_err-checked_mul
returns-in_err-checked_mul c =
    let over : 2 ^ 64 ≤ c.loop-i.n * c.args.base + c.worth-d.result = omega (arith, c.in_err-checked_mul.ensures) in
    c.from_residual.ensures ∙ search read-over

pub returns-in_err-n : goal.returns-in_err-n
returns-in_err-n c =
    let product = c.in_ok-checked_mul.ensures in
    let over : 2 ^ 64 ≤ c.loop-i.n * c.args.base + c.worth-d.result = omega (arith, product.1, c.in_err-n.ensures) in
    c.from_residual-in_err-n.ensures ∙ search read-over

pub loop-i-preserved : goal.loop-i-preserved
loop-i-preserved c =
    let product = c.in_ok-checked_mul.ensures in
    let sum = c.in_ok-n.ensures in
    search (upto-more, product.1, sum.0, sum.1)

pub returns : goal.returns
returns c = search read_past
