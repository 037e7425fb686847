-- `total` meets its contract: each arm is the definition at its kinds. Assumes nothing.
use mathlib.Core.Logic.{inl, inr}
use Rattle.integrals.specs.Sums.{total_of}
use Rattle.integrals.specs.inner.Stored.{addend_of}
use Rattle.integrals.proofs.sums.total.Goals as goal

pub returns-in-Overlap : goal.returns-in-Overlap
unfolding total_of addend_of
returns-in-Overlap c = elim c.in-Overlap.is [ inl p ↦ rw p c.sum.ensures | inr p ↦ rw p c.sum.ensures ]

pub returns-in-Kinetic : goal.returns-in-Kinetic
unfolding total_of addend_of
returns-in-Kinetic c = rw c.in-Kinetic.is c.sum-in-Kinetic.ensures

pub returns-in-Nuclear : goal.returns-in-Nuclear
unfolding total_of addend_of
returns-in-Nuclear c = rw c.in-Nuclear.is c.sum-in-Nuclear.ensures

pub returns-in-Coulomb : goal.returns-in-Coulomb
unfolding total_of
returns-in-Coulomb c = rw c.in-Coulomb.is c.by_order.ensures
