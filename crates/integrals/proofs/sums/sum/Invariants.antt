-- `sum` meets its contract: what is left of the terms gives the whole sum. Assumes nothing.
use mathlib.Core.Path.{◌≡◌}
use Prim.Native.Nat.{◌-◌}
use Rattle.geometry.specs.Floats.{zero}
use Rattle.integrals.specs.Sums.{sum_from}
use Rattle.roll.specs.inner.Again.{terms_again}
use Rattle.integrals.specs.inner.Stored.{addend_of}
use Rattle.integrals.proofs.sums.sum.Given as goal

abbrev pub invariant-loop-done : goal.invariant-loop-done
invariant-loop-done l = sum_from (addend_of l.adds l.table l.aux l.boys) (terms_again l.roll l.at (l.terms - l.done)) l.sum ≡ sum_from (addend_of l.adds l.table l.aux l.boys) (terms_again l.roll l.start l.terms) zero
