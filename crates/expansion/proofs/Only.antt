-- One answer alone, with what the slice then holds, meets each public contract of this crate, and it is the definition's.
use Prim.Native.Nat.{ℕ}
use mathlib.Core.List.{List}
use contract.Lifetimes.{Lfts}
use Rattle.kind.specs.Kinds.{kind_of}
use Rattle.laws.proofs.Contract.{Alone, alone, Lent, Shown, ◌then◌, ◌▸◌, end}
use Rattle.expansion.specs.Answer.{Answer}
use Rattle.kind.specs.declared.Kind.{Kind}
use Rattle.steps.specs.declared.CentreName.{CentreName}
use Rattle.steps.specs.Choice.{sum_of}
use Rattle.expansion.specs.Expanding.{too_high, unused_set, roll_of, roll_of2, named_told, named_measured, named_out, named_told2, named_out2}
use Rattle.expansion.specs.Against.{named_against}
use Rattle.expansion.proofs.expand.Reads.{Post as Expand}
use Rattle.expansion.proofs.expand2.Reads.{Post as Expand2}
use Rattle.expansion.proofs.holding.against.Reads.{Post as Held}
use Rattle.expansion.proofs.holding.against2.Reads.{Post as Held2}
use Rattle.expansion.proofs.request.sum_of.Reads.{Post as SumOf}
use Rattle.expansion.proofs.request.too_high.Reads.{Post as TooHigh}
use Rattle.expansion.proofs.request.unused_set.Reads.{Post as UnusedSet}
use Rattle.expansion.proofs.size.roll_size.Reads.{Post as RollSize}

pub expand-only : (κs : Lfts 1) (kind : ℕ) (orders : List ℕ) (out : Lent ℕ) (start : ℕ) →
    let told = named_told (kind_of kind) orders out.now start in
    Alone {A = Answer × List ℕ} (λ x. Expand κs (kind ▸ orders ▸ out ▸ start ▸ end) x.0 (kind ▸ orders ▸ out then x.1 ▸ start ▸ end))
    (told, named_out told (kind_of kind) orders out.now start)
expand-only κs kind orders out start = alone (λ x p i. (p.answer i, p.out i))

pub expand2-only : (κs : Lfts 1) (kind : ℕ) (orders : List ℕ) (out : Lent ℕ) (start : ℕ) →
    let told = named_told2 (kind_of kind) orders out.now start in
    Alone {A = Answer × List ℕ} (λ x. Expand2 κs (kind ▸ orders ▸ out ▸ start ▸ end) x.0 (kind ▸ orders ▸ out then x.1 ▸ start ▸ end))
    (told, named_out2 told (kind_of kind) orders out.now start)
expand2-only κs kind orders out start = alone (λ x p i. (p.answer i, p.out i))

pub roll-size-only : (kind : ℕ) (orders : List ℕ) → let g = kind ▸ orders ▸ end in Alone (λ r. RollSize tt g r g) (named_measured (kind_of kind) orders)
roll-size-only kind orders = alone (λ r p. p)

pub sum-of-only : (orders : List ℕ) (c : CentreName) → let g = orders ▸ c ▸ end in Alone (λ r. SumOf tt g r g) (sum_of orders c)
sum-of-only orders c = alone (λ r p. p)

pub too-high-only : (k : Kind) (orders : List ℕ) → let g = k ▸ orders ▸ end in Alone (λ r. TooHigh tt g r g) (too_high k orders)
too-high-only k orders = alone (λ r p. p)

pub unused-set-only : (k : Kind) (orders : List ℕ) → let g = k ▸ orders ▸ end in Alone (λ r. UnusedSet tt g r g) (unused_set k orders)
unused-set-only k orders = alone (λ r p. p)

module _ (κs : Lfts 1) (kind : ℕ) (orders : List ℕ) (roll : Shown ℕ) where
  pub against-only : let g = kind ▸ orders ▸ roll ▸ end in Alone (λ r. Held κs g r g) (named_against roll_of (kind_of kind) orders roll.now)
  against-only = alone (λ r p. p)

  pub against2-only : let g = kind ▸ orders ▸ roll ▸ end in Alone (λ r. Held2 κs g r g) (named_against roll_of2 (kind_of kind) orders roll.now)
  against2-only = alone (λ r p. p)
