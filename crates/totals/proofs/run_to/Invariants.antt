-- `run_to` meets its contract: the two numbers are those of the list where the count stands. Assumes nothing.
use Prim.Native.Nat.{◌+◌, ◌≤◌}
use mathlib.Core.Path.{◌≡◌}
use Rattle.totals.specs.inner.Running.{running}
use Rattle.totals.proofs.run_to.Given as goal

abbrev pub invariant-loop-n : goal.invariant-loop-n
invariant-loop-n l = (l.n ≤ l.p) × (l.reached ≡ running l.often l.n) × (l.after ≡ running l.often (l.n + 1))
