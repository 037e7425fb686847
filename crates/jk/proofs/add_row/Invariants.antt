-- `add_row` meets its contract: the sum goes on from where it stands. Assumes nothing.
use Prim.Native.Nat.{◌-◌}
use mathlib.Core.Path.{◌≡◌}
use Rattle.jk.specs.Sums.{over_sigma}
use Rattle.jk.proofs.Sums.{pairs}
use Rattle.jk.proofs.add_row.Given as goal

abbrev pub invariant-loop-sigma : goal.invariant-loop-sigma
invariant-loop-sigma l = over_sigma (pairs l.i l.d l.at l.of) (l.n - l.sigma) l.sigma l.sum ≡ over_sigma (pairs l.i l.d l.at l.of) l.n 0 l.start
