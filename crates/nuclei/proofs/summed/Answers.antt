-- `summed` meets its contract: what is left of the list, after the sum so far, gives the whole. Assumes nothing.
use Prim.Native.Nat.{◌+◌}
use mathlib.Core.Path.{refl, sym}
use native.Mathlib.Nat.{zero-mul}
use Rattle.std.proofs.lemmas.Result.{err_from_is_err_and}
use Rattle.integrals.specs.inner.Stored.{again_from}
use Rattle.nuclei.proofs.NucleiLaws.{next-from, summed-more, summed-not, summed-done}
use Rattle.nuclei.proofs.summed.Goals as goal

pub loop-c-init : goal.loop-c-init
loop-c-init c = (sym (zero-mul (c.args.cursor.l + 1)), refl)

pub returns-in_err-sum : goal.returns-in_err-sum
returns-in_err-sum c =
    let p = err_from_is_err_and c.from_residual.result c.from_residual.ensures.1 in
    rw (p.1, p.2) (summed-not _ _ _ _ c.args.boys.now (again_from c.args.roll.now c.args.cursor) c.args.nuclei.now c.loop-c.from c.loop-c.c-index _ _ c.loop-c.invariant.1 _ c.charged_value.result c.loop-c-test.true c.charged_value.ensures _ c.in_err-sum.was)

pub loop-c-preserved : goal.loop-c-preserved
loop-c-preserved c =
    (next-from _ _ _ c.loop-c.invariant.0, summed-more _ _ _ _ c.args.boys.now (again_from c.args.roll.now c.args.cursor) c.args.nuclei.now c.loop-c.from c.loop-c.c-index _ _ c.loop-c.invariant.1 _ c.charged_value.result c.loop-c-test.true c.charged_value.ensures _ c.in_ok-sum.was)

pub returns : goal.returns
returns c = summed-done _ _ _ _ c.args.boys.now (again_from c.args.roll.now c.args.cursor) c.args.nuclei.now c.loop-c.from c.loop-c.c-index _ _ c.loop-c.invariant.1 _ c.loop-c-test.false c.result.ensures
