-- `stays_kinetic` meets its contract: what is left of the prefactors decides it. Assumes nothing.
use mathlib.Core.Path.{◌≡◌}
use Rattle.integrals.specs.Sums.{stays_kinetic}
use Rattle.roll.specs.inner.Again.{between}
use Rattle.integrals.proofs.sums.stays_kinetic.Given as goal

abbrev pub invariant-loop-at : goal.invariant-loop-at
invariant-loop-at l = stays_kinetic (between l.roll l.at l.end) ≡ stays_kinetic (between l.roll l.from l.end)
