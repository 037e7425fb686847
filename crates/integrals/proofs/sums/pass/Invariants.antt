-- `pass` meets its contract: what is left of the terms gives the whole sum of the order. Assumes nothing.
use mathlib.Core.Path.{◌≡◌}
use Prim.Native.Nat.{◌-◌}
use Rattle.integrals.specs.Sums.{sum_from, coulomb_of, of_order}
use Rattle.roll.specs.inner.Again.{terms_again}
use Rattle.integrals.proofs.sums.pass.Given as goal

abbrev pub invariant-loop-done : goal.invariant-loop-done
invariant-loop-done l = sum_from (coulomb_of l.table l.b) (of_order l.order (terms_again l.roll l.at (l.terms - l.done))) l.sum ≡ sum_from (coulomb_of l.table l.b) (of_order l.order (terms_again l.roll l.start l.terms)) l.before
