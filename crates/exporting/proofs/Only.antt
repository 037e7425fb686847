-- One answer alone, with what the buffer then holds, meets the public contract of this crate, and it is the definition's.
use Prim.Native.Nat.{ℕ}
use mathlib.Core.List.{List}
use contract.Lifetimes.{Lfts}
use Rattle.laws.proofs.Contract.{Alone, alone, Lent, Shown, ◌then◌, ◌▸◌, end}
use Rattle.listing.specs.Listed.{Listed}
use Rattle.exporting.specs.Export.{export_of, export_out}
use Rattle.exporting.proofs.export.Reads.{Post as Export}

pub export-only : (κs : Lfts 2) (roll : Shown ℕ) (out : Lent ℕ) (start : ℕ) →
    Alone {A = Listed × List ℕ} (λ x. Export κs (roll ▸ out ▸ start ▸ end) x.0 (roll ▸ out then x.1 ▸ start ▸ end))
    (export_of roll.now out.now start, export_out roll.now out.now start)
export-only κs roll out start = alone (λ x p i. (p.answer i, p.out i))
