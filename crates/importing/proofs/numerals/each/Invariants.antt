-- `each` meets its contract: what is left says what the whole says. Assumes nothing.
use Prim.Native.Nat.{◌-◌}
use mathlib.Core.Path.{◌≡◌}
use Rattle.importing.specs.inner.Places.{each_at}
use Rattle.importing.proofs.numerals.each.Given as goal

abbrev pub invariant-loop-done : goal.invariant-loop-done
invariant-loop-done l = each_at l.s l.place (l.n - l.done) l.high l.size ≡ each_at l.s l.at l.n l.high l.size
