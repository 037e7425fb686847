-- One answer alone meets the public contract of this crate, and it is the definition's.
use Prim.Native.Nat.{ℕ}
use lib.Ieee.{Float}
use contract.Lifetimes.{Lfts}
use Rattle.laws.proofs.Contract.{Alone, alone, Shown, ◌▸◌, end}
use Rattle.contracting.specs.declared.Contracted.{Contracted}
use Rattle.contracting.specs.Elements.{contracted_of}
use Rattle.contracting.proofs.element.Reads.{Post as Element}

pub element-only : (κs : Lfts 2) (roll : Shown ℕ) (left right : Contracted) (host : Shown Float) →
    let g = roll ▸ left ▸ right ▸ host ▸ end in Alone (λ r. Element κs g r g) (contracted_of roll.now left right host.now)
element-only κs roll left right host = alone (λ r p. p)
