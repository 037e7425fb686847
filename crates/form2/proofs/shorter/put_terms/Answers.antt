-- `put_terms` meets its contract. The loop's invariant is `Writing2`: what stands there, and what is still to be written, make the whole. Assumes nothing.
use native.Mathlib.Omega.{arith}
use Rattle.form2.proofs.ShorterLaws.{writing2-first, writing2-parts, write-shared, write-few, write-in, write-short, write-room, writing2-more, writing2-done}
use Rattle.form2.proofs.shorter.put_terms.Goals as goal

pub loop-done-init : goal.loop-done-init
loop-done-init c = search writing2-first

pub alike-n-requires : goal.alike-n-requires
alike-n-requires c = search writing2-parts

pub overflow_cast-n : goal.overflow_cast-n
overflow_cast-n c = omega (arith, write-shared _ _ _ _ _ _ _ _ _ _ _ _ _ c.loop-done.invariant c.loop-done-test.true c.head-h.ensures c.alike-n.ensures, write-few _ _ _ _ _ _ _ _ _ _ _ _ _ c.loop-done.invariant c.loop-done-test.true c.head-h.ensures c.alike-n.ensures, write-in _ _ _ _ _ _ _ _ _ _ _ _ _ c.loop-done.invariant c.loop-done-test.true c.head-h.ensures c.alike-n.ensures)

pub overflow_add-from : goal.overflow_add-from
overflow_add-from c = omega (arith, write-shared _ _ _ _ _ _ _ _ _ _ _ _ _ c.loop-done.invariant c.loop-done-test.true c.head-h.ensures c.alike-n.ensures, write-few _ _ _ _ _ _ _ _ _ _ _ _ _ c.loop-done.invariant c.loop-done-test.true c.head-h.ensures c.alike-n.ensures, write-in _ _ _ _ _ _ _ _ _ _ _ _ _ c.loop-done.invariant c.loop-done-test.true c.head-h.ensures c.alike-n.ensures)

pub slice_bounds-put_term2-count : goal.slice_bounds-put_term2-count
slice_bounds-put_term2-count c = omega (arith, write-shared _ _ _ _ _ _ _ _ _ _ _ _ _ c.loop-done.invariant c.loop-done-test.true c.head-h.ensures c.alike-n.ensures, write-few _ _ _ _ _ _ _ _ _ _ _ _ _ c.loop-done.invariant c.loop-done-test.true c.head-h.ensures c.alike-n.ensures, write-in _ _ _ _ _ _ _ _ _ _ _ _ _ c.loop-done.invariant c.loop-done-test.true c.head-h.ensures c.alike-n.ensures)

pub slice_bounds-put_term2-start : goal.slice_bounds-put_term2-start
slice_bounds-put_term2-start c = omega (arith, write-shared _ _ _ _ _ _ _ _ _ _ _ _ _ c.loop-done.invariant c.loop-done-test.true c.head-h.ensures c.alike-n.ensures, write-few _ _ _ _ _ _ _ _ _ _ _ _ _ c.loop-done.invariant c.loop-done-test.true c.head-h.ensures c.alike-n.ensures, write-in _ _ _ _ _ _ _ _ _ _ _ _ _ c.loop-done.invariant c.loop-done-test.true c.head-h.ensures c.alike-n.ensures)

pub slice_bounds-put_term2-end : goal.slice_bounds-put_term2-end
slice_bounds-put_term2-end c = omega (arith, write-shared _ _ _ _ _ _ _ _ _ _ _ _ _ c.loop-done.invariant c.loop-done-test.true c.head-h.ensures c.alike-n.ensures, write-few _ _ _ _ _ _ _ _ _ _ _ _ _ c.loop-done.invariant c.loop-done-test.true c.head-h.ensures c.alike-n.ensures, write-in _ _ _ _ _ _ _ _ _ _ _ _ _ c.loop-done.invariant c.loop-done-test.true c.head-h.ensures c.alike-n.ensures)

pub put_term2-to-requires : goal.put_term2-to-requires
put_term2-to-requires c = (write-short _ _ _ _ _ _ _ _ _ _ _ _ _ c.loop-done.invariant c.loop-done-test.true c.head-h.ensures c.alike-n.ensures, write-room _ _ _ _ _ _ _ _ _ _ _ _ _ c.loop-done.invariant c.loop-done-test.true c.head-h.ensures c.alike-n.ensures)

pub loop-done-preserved : goal.loop-done-preserved
loop-done-preserved c = search writing2-more

pub returns : goal.returns
returns c = search writing2-done
