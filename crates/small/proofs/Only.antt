-- One answer alone, with what the slice then holds, meets each public contract of this crate, and it is the definition's.
use Prim.Native.Nat.{ℕ}
use mathlib.Core.List.{List}
use contract.Lifetimes.{Lfts}
use Rattle.kind.specs.Kinds.{kind_of}
use Rattle.laws.proofs.Contract.{Alone, alone, Lent, Shown, ◌then◌, ◌▸◌, end}
use Rattle.expansion.specs.Answer.{Answer}
use Rattle.expansion.specs.Expanding.{named_out}
use Rattle.small.specs.Check.{small_check_of}
use Rattle.small.specs.Expand.{small_named}
use Rattle.small.proofs.small_check.Reads.{Post as SmallCheck}
use Rattle.small.proofs.small_expand.Reads.{Post as SmallExpand}

pub small-expand-only : (κs : Lfts 1) (kind : ℕ) (orders : List ℕ) (out : Lent ℕ) (start : ℕ) →
    let told = small_named (kind_of kind) orders out.now start in
    Alone {A = Answer × List ℕ} (λ x. SmallExpand κs (kind ▸ orders ▸ out ▸ start ▸ end) x.0 (kind ▸ orders ▸ out then x.1 ▸ start ▸ end))
    (told, named_out told (kind_of kind) orders out.now start)
small-expand-only κs kind orders out start = alone (λ x p i. (p.answer i, p.out i))

pub small-check-only : (κs : Lfts 1) (roll : Shown ℕ) → let g = roll ▸ end in Alone (λ r. SmallCheck κs g r g) (small_check_of roll.now)
small-check-only κs roll = alone (λ r p. p)
