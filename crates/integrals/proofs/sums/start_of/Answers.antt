-- `start_of` meets its contract: a kinetic term that stays so, or another. Assumes nothing.
use Rattle.std.proofs.Common.{arith}
use mathlib.Core.Logic.{inl, inr}
use Rattle.integrals.specs.inner.Stored.{start_of}
use Rattle.integrals.proofs.sums.start_of.Goals as goal

pub returns-then-stays_kinetic : goal.returns-then-stays_kinetic
unfolding start_of
returns-then-stays_kinetic c = grind arith

pub returns-else-stays_kinetic : goal.returns-else-stays_kinetic
unfolding start_of
returns-else-stays_kinetic c = grind arith

pub returns-in-Plain : goal.returns-in-Plain
unfolding start_of
returns-in-Plain c = elim c.in-Plain.is [ inl p ↦ rw p | inr p ↦ rw p ]
