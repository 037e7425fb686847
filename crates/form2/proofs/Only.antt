-- One answer alone meets each public contract of this crate, and it is the definition's.
use Prim.Native.Nat.{ℕ}
use mathlib.Core.List.{List}
use contract.Lifetimes.{Lfts}
use Rattle.laws.proofs.Contract.{Alone, alone, Lent, Shown, ◌▸◌, ◌then◌, end}
use Rattle.std.specs.Prelude.{Result}
use Rattle.kind.specs.declared.refusals.Fault.{Fault}
use Rattle.roll.specs.Reading.{roll_at}
use Rattle.form2.specs.declared.cursor.Cursor2.{Cursor2}
use Rattle.form2.specs.declared.moves.Moved.{Moved}
use Rattle.form2.specs.Bytes.{shared}
use Rattle.form2.specs.Cursor.{step2_of}
use Rattle.form2.specs.Header.{is_form2, open2_of, check2_of}
use Rattle.form2.specs.Moves.{in_form1, in_form2, moved_of, out_of}
use Rattle.form2.specs.Reading.{roll_at2}
use Rattle.form2.proofs.beside.alike.Reads.{Post as Alike}
use Rattle.form2.proofs.cursor.Cursor2.next.Reads.{Post as Next}
use Rattle.form2.proofs.header.is_form2.Reads.{Post as IsForm2}
use Rattle.form2.proofs.header.open2.Reads.{Post as Open2}
use Rattle.form2.proofs.judge.check2.Reads.{Post as Check2}
use Rattle.form2.proofs.longer.to_form1.Reads.{Post as ToForm1}
use Rattle.form2.proofs.shorter.to_form2.Reads.{Post as ToForm2}

module _ (κs : Lfts 1) (roll : Shown ℕ) where
  pub next-only : (c : Cursor2) → let g = c ▸ roll ▸ end in Alone (λ r. Next κs g r g) (step2_of c roll.now)
  next-only c = alone (λ r p. p)

  pub open2-only : let g = roll ▸ end in Alone (λ r. Open2 κs g r g) (open2_of roll.now)
  open2-only = alone (λ r p. p)

  pub is-form2-only : let g = roll ▸ end in Alone (λ r. IsForm2 κs g r g) (is_form2 roll.now)
  is-form2-only = alone (λ r p. p)

  pub check2-only : let g = roll ▸ end in Alone (λ r. Check2 κs g r g) (check2_of roll.now)
  check2-only = alone (λ r p. p)

pub alike-only : (κs : Lfts 2) (a b : Shown ℕ) → let g = a ▸ b ▸ end in Alone (λ r. Alike κs g r g) (shared a.now b.now)
alike-only κs a b = alone (λ r p. p)

pub to-form2-only : (κs : Lfts 2) (roll : Shown ℕ) (out : Lent ℕ) (start : ℕ) →
    Alone {A = Result Moved Fault × List ℕ} (λ x. ToForm2 κs (roll ▸ out ▸ start ▸ end) x.0 (roll ▸ out then x.1 ▸ start ▸ end)) (moved_of in_form2 (roll_at roll.now) out.now start, out_of in_form2 (roll_at roll.now) out.now start)
to-form2-only κs roll out start = alone (λ x p i. (p.answer i, p.bytes i))

pub to-form1-only : (κs : Lfts 2) (roll : Shown ℕ) (out : Lent ℕ) (start : ℕ) →
    Alone {A = Result Moved Fault × List ℕ} (λ x. ToForm1 κs (roll ▸ out ▸ start ▸ end) x.0 (roll ▸ out then x.1 ▸ start ▸ end)) (moved_of in_form1 (roll_at2 roll.now) out.now start, out_of in_form1 (roll_at2 roll.now) out.now start)
to-form1-only κs roll out start = alone (λ x p i. (p.answer i, p.bytes i))
