-- One answer alone, with what the buffer then holds, meets each public contract of this crate, and it is the definition's.
use Prim.Native.Nat.{ℕ}
use mathlib.Core.List.{List}
use contract.Lifetimes.{Lfts}
use Rattle.laws.specs.Placed.{placed_where_fits}
use Rattle.laws.proofs.Contract.{Alone, alone, Lent, Shown, ◌then◌, ◌▸◌, end}
use Rattle.listing.specs.Listed.{Listed}
use Rattle.listing.specs.Answers.{text_at}
use Rattle.importing.specs.Answer.{Answer}
use Rattle.importing.specs.Import.{imported_of, imported_out}
use Rattle.importing.specs.Telling.{refusal_text}
use Rattle.importing.proofs.import.Reads.{Post as Import}
use Rattle.importing.proofs.telling.refusal_line.Reads.{Post as RefusalLine}

pub import-only : (κs : Lfts 2) (text : Shown ℕ) (out : Lent ℕ) (start : ℕ) →
    Alone {A = Answer × List ℕ} (λ x. Import κs (text ▸ out ▸ start ▸ end) x.0 (text ▸ out then x.1 ▸ start ▸ end))
    (imported_of text.now out.now start, imported_out text.now out.now start)
import-only κs text out start = alone (λ x p i. (p.answer i, p.out i))

module _ (κs : Lfts 1) (refusal line : ℕ) (out : Lent ℕ) (start : ℕ) where
  pub refusal-line-only :
      Alone {A = Listed × List ℕ} (λ x. RefusalLine κs (refusal ▸ line ▸ out ▸ start ▸ end) x.0 (refusal ▸ line ▸ out then x.1 ▸ start ▸ end))
      (text_at (refusal_text refusal line) out.now start, placed_where_fits out.now start (refusal_text refusal line))
  refusal-line-only = alone (λ x p i. (p.answer i, p.out i))
