-- One answer alone, with what both slices then hold, meets the public contract of this crate, and it is the definition's.
use Prim.Native.Nat.{ℕ}
use lib.Ieee.{Float}
use contract.Lifetimes.{Lfts}
use Rattle.laws.proofs.Contract.{Alone, alone, Lent, Shown, ◌then◌, ◌▸◌, end}
use Rattle.jk.specs.Outcome.{Outcome, jk_of}
use Rattle.jk.proofs.jk_by_entry.Reads.{Post as JkByEntry}

pub jk-by-entry-only : (κs : Lfts 4) (n : ℕ) (i d : Shown Float) (j k : Lent Float) →
    Alone {A = Outcome} (λ o. JkByEntry κs (n ▸ i ▸ d ▸ j ▸ k ▸ end) o.answer (n ▸ i ▸ d ▸ j then o.j ▸ k then o.k ▸ end)) (jk_of n i.now d.now j.now k.now)
jk-by-entry-only κs n i d j k = alone (λ o p. p)
