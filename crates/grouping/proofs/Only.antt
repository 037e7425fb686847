-- One answer alone meets each public contract of this crate, and it is the definition's.
use Prim.Native.Nat.{ℕ}
use mathlib.Core.List.{List}
use lib.Ieee.{Float}
use lib.ListN.{length}
use contract.Lifetimes.{Lfts}
use Rattle.laws.proofs.Contract.{Alone, alone, Lent, Shown, ◌▸◌, end, ◌then◌}
use Rattle.geometry.specs.declared.Centre.{Centre}
use Rattle.integrals.specs.Evaluation.{Answer}
use Rattle.roll.specs.Reading.{roll_at}
use Rattle.grouping.specs.Evaluation.{of_roll, buffer_of}
use Rattle.grouping.specs.Restoring.{restored_of}
use Rattle.grouping.proofs.evaluate_grouped.Reads.{Post as EvaluateGrouped}
use Rattle.grouping.proofs.restoring.grouped_term.Reads.{Post as GroupedTerm}

pub evaluate-grouped-only : (κs : Lfts 3) (roll : Shown ℕ) (a b c d : Centre) (aux : Float) (boys : Shown Float) (buffer : Lent ℕ) →
    Alone {A = Answer × List ℕ} (λ x. EvaluateGrouped κs (roll ▸ a ▸ b ▸ c ▸ d ▸ aux ▸ boys ▸ buffer ▸ end) x.0 (roll ▸ a ▸ b ▸ c ▸ d ▸ aux ▸ boys ▸ buffer then x.1 ▸ end))
    (of_roll (roll_at roll.now) (length buffer.now) a b c d aux boys.now, buffer_of (roll_at roll.now) buffer.now)
evaluate-grouped-only κs roll a b c d aux boys buffer = alone (λ x p i. (p.answer i, p.buffer i))

pub grouped-term-only : (κs : Lfts 1) (grouping : Shown ℕ) (l terms number : ℕ) → let g = grouping ▸ l ▸ terms ▸ number ▸ end in Alone (λ r. GroupedTerm κs g r g) (restored_of grouping.now l terms number)
grouped-term-only κs grouping l terms number = alone (λ r p. p)
