-- One answer alone meets each public contract of this crate, and it is the definition's.
use Prim.Native.Nat.{ℕ}
use Rattle.laws.proofs.Contract.{Alone, alone, ◌▸◌, end}
use Rattle.kind.specs.declared.Kind.{Kind}
use Rattle.kind.specs.Limits.{limits}
use Rattle.kind.specs.Kinds.{kind_of, number_of, orders_of, table_of, branches_of, most_l, most_prefactors, uses_boys}
use Rattle.kind.specs.declared.refusals.Refusal.{Refusal}
use Rattle.kind.specs.Refusals.{refusal_number, unplaced}
use Rattle.kind.proofs.refusals.U8FromRefusal.from.Reads.{Post as RefusalNumber}
use Rattle.kind.proofs.refusals.FaultFromRefusal.from.Reads.{Post as Unplaced}
use Rattle.kind.proofs.Kind.limits.Reads.{Post as Limits}
use Rattle.kind.proofs.Kind.of.Reads.{Post as Of}
use Rattle.kind.proofs.Kind.number.Reads.{Post as Number}
use Rattle.kind.proofs.Kind.orders.Reads.{Post as Orders}
use Rattle.kind.proofs.Kind.table.Reads.{Post as Table}
use Rattle.kind.proofs.Kind.branches.Reads.{Post as Branches}
use Rattle.kind.proofs.Kind.most_l.Reads.{Post as MostL}
use Rattle.kind.proofs.Kind.most_prefactors.Reads.{Post as MostPrefactors}
use Rattle.kind.proofs.Kind.uses_boys.Reads.{Post as UsesBoys}

pub limits-only : Alone (λ r. Limits tt end r end) limits
limits-only = alone (λ r p. p)

pub of-only : (byte : ℕ) → let g = byte ▸ end in Alone (λ r. Of tt g r g) (kind_of byte)
of-only byte = alone (λ r p. p)

pub number-only : (k : Kind) → let g = k ▸ end in Alone (λ r. Number tt g r g) (number_of k)
number-only k = alone (λ r p. p)

pub orders-only : (k : Kind) → let g = k ▸ end in Alone (λ r. Orders tt g r g) (orders_of k)
orders-only k = alone (λ r p. p)

pub table-only : (k : Kind) → let g = k ▸ end in Alone (λ r. Table tt g r g) (table_of k)
table-only k = alone (λ r p. p)

pub branches-only : (k : Kind) → let g = k ▸ end in Alone (λ r. Branches tt g r g) (branches_of k)
branches-only k = alone (λ r p. p)

pub most-l-only : (k : Kind) → let g = k ▸ end in Alone (λ r. MostL tt g r g) (most_l k)
most-l-only k = alone (λ r p. p)

pub most-prefactors-only : (k : Kind) (l : ℕ) → let g = k ▸ l ▸ end in Alone (λ r. MostPrefactors tt g r g) (most_prefactors k l)
most-prefactors-only k l = alone (λ r p. p)

pub uses-boys-only : (k : Kind) → let g = k ▸ end in Alone (λ r. UsesBoys tt g r g) (uses_boys k)
uses-boys-only k = alone (λ r p. p)

pub refusal-number-only : (r : Refusal) → let g = r ▸ end in Alone (λ n. RefusalNumber tt g n g) (refusal_number r)
refusal-number-only r = alone (λ n p. p)

pub unplaced-only : (r : Refusal) → let g = r ▸ end in Alone (λ f. Unplaced tt g f g) (unplaced r)
unplaced-only r = alone (λ f p. p)
