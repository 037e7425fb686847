-- One answer alone meets each public contract of this crate, and it is the definition's.
use Prim.Native.Nat.{ℕ}
use mathlib.Core.List.{List}
use contract.Lifetimes.{Lfts}
use Rattle.laws.proofs.Contract.{Alone, alone, Lent, ◌then◌, ◌▸◌, end}
use Rattle.std.specs.Prelude.{Result}
use Rattle.kind.specs.declared.refusals.Refusal.{Refusal}
use Rattle.shell.specs.declared.Listed.{Listed}
use Rattle.shell.specs.Shells.{listed_at, listed_out, shell2_of, shell4_of}
use Rattle.shell.proofs.get_ijk_list.Reads.{Post as GetIjkList}
use Rattle.shell.proofs.get_shell2.Reads.{Post as GetShell2}
use Rattle.shell.proofs.get_shell4.Reads.{Post as GetShell4}

pub get-shell2-only : (a b number : ℕ) → let g = a ▸ b ▸ number ▸ end in Alone (λ r. GetShell2 tt g r g) (shell2_of a b number)
get-shell2-only a b number = alone (λ r p. p)

pub get-shell4-only : (a b c d number : ℕ) → let g = a ▸ b ▸ c ▸ d ▸ number ▸ end in Alone (λ r. GetShell4 tt g r g) (shell4_of a b c d number)
get-shell4-only a b c d number = alone (λ r p. p)

pub get-ijk-list-only : (κs : Lfts 1) (m : ℕ) (out : Lent ℕ) (start : ℕ) →
    Alone {A = Result Listed Refusal × List ℕ} (λ x. GetIjkList κs (m ▸ out ▸ start ▸ end) x.0 (m ▸ out then x.1 ▸ start ▸ end)) (listed_at m out.now start, listed_out m out.now start)
get-ijk-list-only κs m out start = alone (λ x p i. (p.answer i, p.out i))
