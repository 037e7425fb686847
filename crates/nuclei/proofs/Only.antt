-- One answer alone meets the public contract of this crate, and it is the definition's.
use Prim.Native.Nat.{ℕ}
use lib.Ieee.{Float}
use contract.Lifetimes.{Lfts}
use Rattle.laws.proofs.Contract.{Alone, alone, Shown, ◌▸◌, end}
use Rattle.geometry.specs.declared.Centre.{Centre}
use Rattle.nuclei.specs.declared.Nuclei.{Nuclei}
use Rattle.nuclei.specs.Nuclei.{nuclear_of}
use Rattle.nuclei.proofs.nuclear.Reads.{Post as Nuclear}

pub nuclear-only : (κs : Lfts 2) (roll : Shown ℕ) (a b : Centre) (n : Nuclei) (aux : Float) (boys : Shown Float) →
    let g = roll ▸ a ▸ b ▸ n ▸ aux ▸ boys ▸ end in Alone (λ r. Nuclear κs g r g) (nuclear_of roll.now a b n aux boys.now)
nuclear-only κs roll a b n aux boys = alone (λ r p. p)
