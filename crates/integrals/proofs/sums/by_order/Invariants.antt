-- `by_order` meets its contract: what is left of the Boys orders gives the whole sum. Assumes nothing.
use Prim.Native.Nat.{◌+◌, ◌-◌}
use mathlib.Core.Path.{◌≡◌}
use Rattle.geometry.specs.Floats.{zero}
use Rattle.integrals.specs.Sums.{run_orders}
use Rattle.roll.specs.inner.Again.{terms_again}
use Rattle.integrals.proofs.sums.by_order.Given as goal

abbrev pub invariant-loop-order : goal.invariant-loop-order
invariant-loop-order l = run_orders l.table l.s l.boys (terms_again l.roll l.start l.terms) (l.l + 1 - l.order) l.order l.sum ≡ run_orders l.table l.s l.boys (terms_again l.roll l.start l.terms) (l.l + 1) 0 zero
