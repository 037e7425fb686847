-- `restore` meets its contract: what is left of the entries gives the whole answer. Assumes nothing.
use Prim.Native.Nat.{◌-◌}
use mathlib.Core.Path.{◌≡◌}
use Rattle.grouping.specs.Restoring.{none_passed, restored_from}
use Rattle.grouping.proofs.restoring.restore.Given as goal

abbrev pub invariant-loop-done : goal.invariant-loop-done
invariant-loop-done l = restored_from l.grouping l.l l.terms l.asked l.passed l.at (l.terms - l.done) ≡ restored_from l.grouping l.l l.terms l.asked none_passed 0 l.terms
