-- One answer alone meets the public contract of this crate, and it is the definition's.
use Prim.Native.Nat.{ℕ}
use contract.Lifetimes.{Lfts}
use Rattle.laws.proofs.Contract.{Alone, alone, Shown, ◌▸◌, end}
use Rattle.confirming.specs.Confirm.{confirm_of}
use Rattle.confirming.proofs.confirm.Reads.{Post as Confirm}

pub confirm-only : (κs : Lfts 1) (roll : Shown ℕ) → let g = roll ▸ end in Alone (λ r. Confirm κs g r g) (confirm_of roll.now)
confirm-only κs roll = alone (λ r p. p)
