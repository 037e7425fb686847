-- One answer alone meets each public contract of this crate, and it is the definition's.
use Prim.Native.Nat.{ℕ}
use mathlib.Core.List.{List}
use contract.Lifetimes.{Lfts}
use Rattle.laws.proofs.Contract.{Alone, alone, Shown, ◌▸◌, end}
use Rattle.totals.specs.Totals.{total_of, roll_total_of}
use Rattle.totals.proofs.scale_total.Reads.{Post as ScaleTotal}
use Rattle.totals.proofs.roll_total.Reads.{Post as RollTotal}

pub scale-total-only : (kind : ℕ) (orders : List ℕ) → let g = kind ▸ orders ▸ end in Alone (λ r. ScaleTotal tt g r g) (total_of kind orders)
scale-total-only kind orders = alone (λ r p. p)

pub roll-total-only : (κs : Lfts 1) (roll : Shown ℕ) → let g = roll ▸ end in Alone (λ r. RollTotal κs g r g) (roll_total_of roll.now)
roll-total-only κs roll = alone (λ r p. p)
