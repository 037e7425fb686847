-- `put_terms` meets its contract. The loop's invariant is `Writing1`: what stands there, and the terms left, make the whole. Assumes nothing.
use native.Mathlib.Omega.{arith}
use Rattle.form2.proofs.LongerLaws.{writing1-never, write1-inside, write1-few, write1-may, write1-back, writing1-more, writing1-done}
use Rattle.form2.proofs.longer.put_terms.Goals as goal

pub overflow_add-place : goal.overflow_add-place
overflow_add-place c = omega (arith, write1-inside _ _ _ _ _ _ _ _ _ _ _ _ _ c.loop-done.invariant _ c.loop-done-test.true c.numbers.ensures _ c.in-Ok.is)

pub overflow_add-count : goal.overflow_add-count
overflow_add-count c = omega (arith, write1-few _ _ _ _ _ _ _ _ _ _ _ _ _ c.loop-done.invariant _ c.loop-done-test.true c.numbers.ensures _ c.in-Ok.is)

pub slice_bounds-put_term1-end : goal.slice_bounds-put_term1-end
slice_bounds-put_term1-end c = omega (arith, write1-inside _ _ _ _ _ _ _ _ _ _ _ _ _ c.loop-done.invariant _ c.loop-done-test.true c.numbers.ensures _ c.in-Ok.is)

pub put_term1-to-requires : goal.put_term1-to-requires
put_term1-to-requires c = search write1-may

pub overflow_sub-from : goal.overflow_sub-from
overflow_sub-from c = omega (arith, write1-back _ _ _ _ _ _ _ _ _ _ _ _ _ c.loop-done.invariant _ c.loop-done-test.true c.numbers.ensures _ c.in-Ok.is _ _ c.put_term1-to.ensures)

pub returns-in-Err : goal.returns-in-Err
returns-in-Err c = search writing1-never

pub loop-done-preserved : goal.loop-done-preserved
loop-done-preserved c = search writing1-more

pub returns : goal.returns
returns c = search writing1-done
