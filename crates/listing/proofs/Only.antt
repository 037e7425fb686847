-- One answer alone, with what the buffer then holds, meets each public contract of this crate, and it is the definition's.
use Prim.Native.Nat.{ℕ}
use mathlib.Core.List.{List}
use contract.Lifetimes.{Lfts}
use Rattle.laws.specs.Placed.{placed_where_fits}
use Rattle.laws.proofs.Contract.{Alone, alone, Lent, Shown, ◌then◌, ◌▸◌, end}
use Rattle.listing.specs.Listed.{Listed}
use Rattle.listing.specs.Text.{refusal_text}
use Rattle.listing.specs.Answers.{text_at, listing_at, listing_out}
use Rattle.listing.proofs.listing.Reads.{Post as Listing}
use Rattle.listing.proofs.refusal_line.Reads.{Post as RefusalLine}

pub listing-only : (κs : Lfts 2) (roll : Shown ℕ) (out : Lent ℕ) (start : ℕ) →
    Alone {A = Listed × List ℕ} (λ x. Listing κs (roll ▸ out ▸ start ▸ end) x.0 (roll ▸ out then x.1 ▸ start ▸ end))
    (listing_at roll.now out.now start, listing_out roll.now out.now start)
listing-only κs roll out start = alone (λ x p i. (p.answer i, p.out i))

module _ (κs : Lfts 1) (refusal place : ℕ) (out : Lent ℕ) (start : ℕ) where
  pub refusal-line-only :
      Alone {A = Listed × List ℕ} (λ x. RefusalLine κs (refusal ▸ place ▸ out ▸ start ▸ end) x.0 (refusal ▸ place ▸ out then x.1 ▸ start ▸ end))
      (text_at (refusal_text refusal place) out.now start, placed_where_fits out.now start (refusal_text refusal place))
  refusal-line-only = alone (λ x p i. (p.answer i, p.out i))
