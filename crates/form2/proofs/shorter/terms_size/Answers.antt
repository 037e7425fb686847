-- `terms_size` meets its contract. The loop's invariant is `Sizing2`: what was measured, and what is still to be measured, make the whole. Assumes nothing.
use native.Mathlib.Omega.{arith}
use Rattle.form2.proofs.ShorterLaws.{sizing2-first, sizing2-parts, size-shared, size_few, size_fits, sizing2-more, sizing2-done}
use Rattle.form2.proofs.shorter.terms_size.Goals as goal

pub loop-done-init : goal.loop-done-init
loop-done-init c = search sizing2-first

pub alike-n-requires : goal.alike-n-requires
alike-n-requires c = search sizing2-parts

pub overflow_sub-further : goal.overflow_sub-further
overflow_sub-further c = omega (arith, size-shared _ _ _ _ _ _ _ _ _ _ c.loop-done.invariant c.loop-done-test.true c.head_at-h.ensures c.alike-n.ensures, size_few _ _ _ _ _ _ _ _ _ _ c.loop-done.invariant c.loop-done-test.true c.head_at-h.ensures c.alike-n.ensures)

pub overflow_sub-further-in-loop-done : goal.overflow_sub-further-in-loop-done
overflow_sub-further-in-loop-done c = omega (arith, size-shared _ _ _ _ _ _ _ _ _ _ c.loop-done.invariant c.loop-done-test.true c.head_at-h.ensures c.alike-n.ensures, size_few _ _ _ _ _ _ _ _ _ _ c.loop-done.invariant c.loop-done-test.true c.head_at-h.ensures c.alike-n.ensures)

pub overflow_cast-n : goal.overflow_cast-n
overflow_cast-n c = omega (arith, size-shared _ _ _ _ _ _ _ _ _ _ c.loop-done.invariant c.loop-done-test.true c.head_at-h.ensures c.alike-n.ensures, size_few _ _ _ _ _ _ _ _ _ _ c.loop-done.invariant c.loop-done-test.true c.head_at-h.ensures c.alike-n.ensures)

pub overflow_add-size : goal.overflow_add-size
overflow_add-size c = omega (arith, size_fits _ _ _ _ _ _ _ _ _ _ c.loop-done.invariant c.loop-done-test.true c.head_at-h.ensures c.alike-n.ensures _ c.length2-size.ensures)

pub loop-done-preserved : goal.loop-done-preserved
loop-done-preserved c = search sizing2-more

pub returns : goal.returns
returns c = search sizing2-done
