-- Of every roll that the expansion of a claimed kind writes, the sum of the scales is the number by hand.
use Prim.Native.Nat.{ℕ, ◌≤◌}
use mathlib.Core.Path.{◌≡◌, ap, ◌∙◌}
use mathlib.Core.Bool.{true}
use mathlib.Core.List.{List}
use native.Mathlib.Omega.{arith}
use borrow.Author.Tests.{ltb-false}
use lib.ListN.{length}
use Rattle.kind.specs.declared.Kind.{Kind}
use Rattle.kind.specs.Limits.{most_terms}
use Rattle.expansion.specs.Answer.{Roll}
use Rattle.expansion.specs.Expanding.{terms_of, roll_of}
use Rattle.expansion.specs.inner.Requests.{RequestWithin}
use Rattle.expansion.proofs.Demanded.{known, answered, written_is}
use Rattle.expansion.proofs.ReadsBack.{rest-zero, reads-back}
use Rattle.totals.specs.Totals.{claimed, scale_total, kind_total, named_total, sum_in, roll_total_of}
use Rattle.totals.specs.ByHand.{SameWritten}
use Rattle.totals.proofs.Shown.{total-by-hand}
use Rattle.std.specs.Prelude.{Option, Some, Ok}

module _ (k : Kind) (orders : List ℕ) (within : RequestWithin k orders) (is : claimed k ≡ true) where
  hand-told : kind_total k orders ≡ Ok (Some (scale_total k orders))
  unfolding kind_total
  hand-told = simp (within.low_sums, within.none-unused, is)

  roll-told : length (terms_of k orders) ≤ most_terms → roll_total_of (roll_of k orders) ≡ Ok (scale_total k orders)
  unfolding roll_total_of
  roll-told few = ap sum_in (reads-back k orders within few) ∙ ap (λ (n : ℕ). Ok n) (total-by-hand k orders is (rest-zero k orders within))

pub same-written : SameWritten
same-written kind orders before begin long count after in-full told =
    let of = known roll_of kind orders before begin (Roll long count) after told (λ f. omega arith) in
    let k = of.k in
    let a = answered roll_of k orders before begin long count of.answer in
    let within : RequestWithin k orders = record { low_sums = a.two; none-unused = a.three; in-full = in-full } in
    let few : length (terms_of k orders) ≤ most_terms = ltb-false most_terms (length (terms_of k orders)) a.four in
    record {
      k = k;
      named = of.named;
      by_hand = λ (is : claimed k ≡ true). ap (λ (m : Option Kind). named_total m orders) of.named ∙ hand-told k orders within is;
      in-roll = λ (is : claimed k ≡ true). ap roll_total_of (written_is kind orders before begin long count after of) ∙ roll-told k orders within is few;
    }
