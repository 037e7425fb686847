-- One answer alone, with what the slice then holds, meets each public contract of this crate, and it is the definition's.
use Prim.Native.Nat.{ℕ}
use mathlib.Core.List.{List}
use contract.Lifetimes.{Lfts}
use Rattle.laws.proofs.Contract.{Alone, alone, Lent, Shown, ◌▸◌, ◌then◌, end}
use Rattle.salvaging.specs.Salvage.{form_of, Salvaged, salvaged_of, out_of}
use Rattle.salvaging.proofs.forms.form_of.Reads.{Post as FormOf}
use Rattle.salvaging.proofs.salvage.Reads.{Post as Salvage}

pub salvage-only : (κs : Lfts 2) (roll : Shown ℕ) (out : Lent ℕ) (start : ℕ) →
    Alone {A = Salvaged × List ℕ} (λ x. Salvage κs (roll ▸ out ▸ start ▸ end) x.0 (roll ▸ out then x.1 ▸ start ▸ end)) (salvaged_of roll.now out.now start, out_of roll.now out.now start)
salvage-only κs roll out start = alone (λ x p i. (p.answer i, p.out i))

pub form-of-only : (κs : Lfts 1) (roll : Shown ℕ) → let g = roll ▸ end in Alone (λ f. FormOf κs g f g) (form_of roll.now)
form-of-only κs roll = alone (λ f p. p)
