-- `sum` meets its contract: what is left of the entries gives the whole sum. Assumes nothing.
use Prim.Native.Nat.{◌-◌}
use mathlib.Core.Path.{◌≡◌}
use Rattle.geometry.specs.Floats.{zero}
use Rattle.integrals.specs.Sums.{sum_from}
use Rattle.integrals.specs.inner.Stored.{own_order_of}
use Rattle.grouping.specs.inner.Laying.{entries_again}
use Rattle.grouping.proofs.summing.sum.Given as goal

abbrev pub invariant-loop-done : goal.invariant-loop-done
invariant-loop-done l = sum_from (own_order_of l.table l.s l.boys) (entries_again l.buffer l.at (l.terms - l.done)) l.sum ≡ sum_from (own_order_of l.table l.s l.boys) (entries_again l.buffer 0 l.terms) zero
