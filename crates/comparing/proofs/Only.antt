-- One answer alone, with what the buffer then holds, meets each public contract of this crate, and it is the definition's.
use Prim.Native.Nat.{ℕ}
use mathlib.Core.List.{List}
use contract.Lifetimes.{Lfts}
use Rattle.std.specs.Prelude.{Result}
use Rattle.laws.specs.Placed.{placed_where_fits}
use Rattle.laws.proofs.Contract.{Alone, alone, Lent, Shown, ◌then◌, ◌▸◌, end}
use Rattle.listing.specs.Listed.{Listed}
use Rattle.listing.specs.Answers.{text_at}
use Rattle.comparing.specs.declared.differ.Compared.{Compared}
use Rattle.comparing.specs.declared.pair.Pair.{Pair}
use Rattle.comparing.specs.declared.sides.Sided.{Sided}
use Rattle.comparing.specs.Answers.{compared_of, compared_text, sided_text, answered_text}
use Rattle.comparing.specs.Pairs.{Answered, next_of, is_line}
use Rattle.comparing.proofs.differ.compare.Reads.{Post as Compare}
use Rattle.comparing.proofs.differ.is_line.Reads.{Post as IsLine}
use Rattle.comparing.proofs.pair.Pair.next.Reads.{Post as Next}
use Rattle.comparing.proofs.pieces.head.Reads.{Post as Head}
use Rattle.comparing.proofs.pieces.line.Reads.{Post as Line}
use Rattle.comparing.proofs.pieces.refusal_line.Reads.{Post as RefusalLine}

module _ (κs : Lfts 2) (left right : Shown ℕ) where
  pub compare-only : let g = left ▸ right ▸ end in Alone (λ r. Compare κs g r g) (compared_of left.now right.now)
  compare-only = alone (λ r p. p)

  pub next-only : (p : Pair) → let g = p ▸ left ▸ right ▸ end in Alone (λ r. Next κs g r g) (next_of p left.now right.now)
  next-only p = alone (λ r p. p)

module _ (κs : Lfts 1) (out : Lent ℕ) (start : ℕ) where
  pub head-only : (c : Result Compared Sided) →
      Alone {A = Listed × List ℕ} (λ x. Head κs (c ▸ out ▸ start ▸ end) x.0 (c ▸ out then x.1 ▸ start ▸ end))
      (text_at (compared_text c) out.now start, placed_where_fits out.now start (compared_text c))
  head-only c = alone (λ x p i. (p.answer i, p.out i))

  pub line-only : (m : Answered) →
      Alone {A = Listed × List ℕ} (λ x. Line κs (m ▸ out ▸ start ▸ end) x.0 (m ▸ out then x.1 ▸ start ▸ end))
      (text_at (answered_text m) out.now start, placed_where_fits out.now start (answered_text m))
  line-only m = alone (λ x p i. (p.answer i, p.out i))

  pub refusal-line-only : (e : Sided) →
      Alone {A = Listed × List ℕ} (λ x. RefusalLine κs (e ▸ out ▸ start ▸ end) x.0 (e ▸ out then x.1 ▸ start ▸ end))
      (text_at (sided_text e) out.now start, placed_where_fits out.now start (sided_text e))
  refusal-line-only e = alone (λ x p i. (p.answer i, p.out i))

pub is-line-only : (m : Answered) → let g = m ▸ end in Alone (λ r. IsLine tt g r g) (is_line m)
is-line-only m = alone (λ r p. p)
