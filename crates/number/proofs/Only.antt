-- One answer alone meets each public contract of this crate, and it is the definition's.
use Prim.Native.Nat.{ℕ}
use mathlib.Core.List.{List}
use contract.Lifetimes.{Lfts}
use Rattle.laws.specs.Placed.{placed_where_fits}
use Rattle.laws.proofs.Contract.{Alone, alone, Lent, Shown, ◌then◌, ◌▸◌, end}
use Rattle.number.specs.declared.Unread.{Unread}
use Rattle.std.specs.Prelude.{Option}
use Rattle.number.specs.Numbers.{one_byte, bytes_of, read_at, refusal_of, length_of, written_at}
use Rattle.number.proofs.wide.Reads.{Post as Wide}
use Rattle.number.proofs.one_byte.Reads.{Post as OneByte}
use Rattle.number.proofs.read.Reads.{Post as Read}
use Rattle.number.proofs.RefusalFromUnread.from.Reads.{Post as RefusalOf}
use Rattle.number.proofs.length.Reads.{Post as Length}
use Rattle.number.proofs.write.Reads.{Post as Write}

pub wide-only : (x : ℕ) → let g = x ▸ end in Alone (λ r. Wide tt g r g) x
wide-only x = alone (λ r p. p)

pub one-byte-only : (n : ℕ) → let g = n ▸ end in Alone (λ r. OneByte tt g r g) (one_byte n)
one-byte-only n = alone (λ r p. p)

pub read_only : (κs : Lfts 1) (s : Shown ℕ) (at : ℕ) → let g = s ▸ at ▸ end in Alone (λ r. Read κs g r g) (read_at s.now at)
read_only κs s at = alone (λ r p. p)

pub refusal-only : (why : Unread) → let g = why ▸ end in Alone (λ r. RefusalOf tt g r g) (refusal_of why)
refusal-only why = alone (λ r p. p)

pub length-only : (n : ℕ) → let g = n ▸ end in Alone (λ r. Length tt g r g) (length_of n)
length-only n = alone (λ r p. p)

pub write-only : (κs : Lfts 1) (out : Lent ℕ) (at n : ℕ) →
    Alone {A = Option ℕ × List ℕ} (λ x. Write κs (out ▸ at ▸ n ▸ end) x.0 (out then x.1 ▸ at ▸ n ▸ end)) (written_at out.now at (bytes_of n), placed_where_fits out.now at (bytes_of n))
write-only κs out at n = alone (λ x p i. (p.answer i, p.out i))
