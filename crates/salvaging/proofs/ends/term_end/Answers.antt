-- `term_end` meets its contract. The loop's invariant is `Scale`: the scale's last byte is where it was. Assumes nothing.
use native.Mathlib.Omega.{arith}
use Rattle.salvaging.proofs.EndsLaws.{scale-first, scale-inside, scale-more, scale-less, count_room, scale-end}
use Rattle.salvaging.proofs.ends.term_end.Goals as goal

pub loop-place-init : goal.loop-place-init
loop-place-init c = search scale-first

pub bounds-fresh-place : goal.bounds-fresh-place
bounds-fresh-place c = search scale-inside

pub overflow_add-place : goal.overflow_add-place
overflow_add-place c = omega (arith, scale-inside _ _ _ _ c.requires c.loop-place.invariant)

pub loop-place-smaller : goal.loop-place-smaller
loop-place-smaller c = search scale-less

pub loop-place-preserved : goal.loop-place-preserved
loop-place-preserved c = search scale-more

pub overflow_add-count : goal.overflow_add-count
overflow_add-count c = omega (arith, count_room _ _ _ _ c.requires c.loop-place.invariant c.loop-place-test.false)

pub overflow_add-result : goal.overflow_add-result
overflow_add-result c = omega (arith, count_room _ _ _ _ c.requires c.loop-place.invariant c.loop-place-test.false)

pub bounds-fresh-count : goal.bounds-fresh-count
bounds-fresh-count c = omega (arith, count_room _ _ _ _ c.requires c.loop-place.invariant c.loop-place-test.false)

pub overflow_add-result-2 : goal.overflow_add-result-2
overflow_add-result-2 c = omega (arith, c.wide.ensures, count_room _ _ _ _ c.requires c.loop-place.invariant c.loop-place-test.false)

pub returns : goal.returns
returns c = search scale-end
