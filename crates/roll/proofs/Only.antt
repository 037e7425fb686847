-- One answer alone meets each public contract of this crate, and it is the definition's.
use Prim.Native.Nat.{ℕ}
use contract.Lifetimes.{Lfts}
use Rattle.kind.specs.declared.Kind.{Kind}
use Rattle.kind.specs.declared.refusals.Refusal.{Refusal}
use Rattle.laws.proofs.Contract.{Alone, alone, Shown, ◌▸◌, end}
use Rattle.roll.specs.declared.cursor.Cursor.{Cursor}
use Rattle.roll.specs.Cursor.{no_cursor, step_of}
use Rattle.roll.specs.Header.{refused_opened, open_kind_of, open_of, check_of}
use Rattle.roll.specs.Reading.{within_at, most_boys}
use Rattle.roll.specs.inner.Again.{seen_at, head_at, boys_at, end_at}
use Rattle.roll.proofs.again.number_at.Reads.{Post as NumberAt}
use Rattle.roll.proofs.again.head_at.Reads.{Post as HeadAt}
use Rattle.roll.proofs.again.boys_at.Reads.{Post as BoysAt}
use Rattle.roll.proofs.again.end_at.Reads.{Post as EndAt}
use Rattle.roll.proofs.cursor.Cursor.next.Reads.{Post as Next}
use Rattle.roll.proofs.cursor.no_cursor.Reads.{Post as NoCursor}
use Rattle.roll.proofs.field.within.Reads.{Post as Within}
use Rattle.roll.proofs.header.open.Reads.{Post as Open}
use Rattle.roll.proofs.header.open_kind.Reads.{Post as OpenKind}
use Rattle.roll.proofs.header.refused_roll.Reads.{Post as RefusedRoll}
use Rattle.roll.proofs.judge.check.Reads.{Post as Check}
use Rattle.roll.proofs.terms.most_boys.Reads.{Post as MostBoys}

pub no-cursor-only : Alone (λ r. NoCursor tt end r end) no_cursor
no-cursor-only = alone (λ r p. p)

pub refused-roll-only : (refusal : Refusal) (place : ℕ) → let g = refusal ▸ place ▸ end in Alone (λ r. RefusedRoll tt g r g) (refused_opened refusal place)
refused-roll-only refusal place = alone (λ r p. p)

pub most-boys-only : (k : Kind) (l : ℕ) → let g = k ▸ l ▸ end in Alone (λ r. MostBoys tt g r g) (most_boys k l)
most-boys-only k l = alone (λ r p. p)

module _ (κs : Lfts 1) (roll : Shown ℕ) where
  pub within-only : (at low high : ℕ) → let g = roll ▸ at ▸ low ▸ high ▸ end in Alone (λ r. Within κs g r g) (within_at roll.now at low high)
  within-only at low high = alone (λ r p. p)

  pub open-kind-only : (at : ℕ) (k : Kind) → let g = roll ▸ at ▸ k ▸ end in Alone (λ r. OpenKind κs g r g) (open_kind_of roll.now at k)
  open-kind-only at k = alone (λ r p. p)

  pub number-only : (at : ℕ) → let g = roll ▸ at ▸ end in Alone (λ r. NumberAt κs g r g) (seen_at roll.now at)
  number-only at = alone (λ r p. p)

  pub head-only : (at : ℕ) → let g = roll ▸ at ▸ end in Alone (λ r. HeadAt κs g r g) (head_at roll.now at)
  head-only at = alone (λ r p. p)

  pub boys-only : (at : ℕ) → let g = roll ▸ at ▸ end in Alone (λ r. BoysAt κs g r g) (boys_at roll.now at)
  boys-only at = alone (λ r p. p)

  pub end-only : (at : ℕ) → let g = roll ▸ at ▸ end in Alone (λ r. EndAt κs g r g) (end_at roll.now at)
  end-only at = alone (λ r p. p)

  pub next-only : (c : Cursor) → let g = c ▸ roll ▸ end in Alone (λ r. Next κs g r g) (step_of c roll.now)
  next-only c = alone (λ r p. p)

  pub open-only : let g = roll ▸ end in Alone (λ r. Open κs g r g) (open_of roll.now)
  open-only = alone (λ r p. p)

  pub check-only : let g = roll ▸ end in Alone (λ r. Check κs g r g) (check_of roll.now)
  check-only = alone (λ r p. p)
