-- Nuclear and Coulomb requests of a large L are always 4: they have at least 2^L terms (histories Doubling), and the limit is below that.
-- 02, Q-6: "Coulomb with L of 20 or more then always exceeds it." (01 said it of L = 16 and its own limit: branches 0 and 1 alone give 2^L.)
use Prim.Native.Nat.{ℕ, ◌+◌, ◌^◌, ◌≤◌, ◌<◌}
use mathlib.Core.Path.{◌≡◌, refl, ap, ◌∙◌}
use mathlib.Core.Bool.{true}
use mathlib.Core.List.{List}
use native.Mathlib.Omega.{arith}
use native.Mathlib.Nat.{pow-le-pow_right}
use borrow.Author.Tests.{ltb-false, lt-ltb}
use lib.ListN.{length, drop}
use Rattle.laws.specs.Total.{total}
use Rattle.kind.specs.declared.Kind.{Kind}
use Rattle.kind.specs.declared.Kind.TheVariants.{Coulomb}
use Rattle.kind.specs.Limits.{most_terms}
use Rattle.kind.specs.Kinds.{kind_of, number_of, orders_of, uses_boys}
use Rattle.histories.proofs.Doubling.{least-terms}
use Rattle.expansion.specs.Answer.{Answer}
use Rattle.expansion.specs.Answer.{Refused}
use Rattle.expansion.specs.Expanding.{terms_of, kind_in, named_told, ExpandTold}
use Rattle.expansion.specs.Demands.{Passed}
use Rattle.std.specs.Prelude.{Option}
use Rattle.kind.specs.declared.refusals.Refusal.TheVariants.{TooManyTerms}

-- a call that passes 1, 2, 3 and 5, of a kind that uses Boys orders
module _ (kind : ℕ) (orders before : List ℕ) (begin : ℕ) (k : Kind) (passed : Passed kind orders before begin k) (boys : uses_boys k ≡ true) where
  -- 2^L above the limit is 4
  pub doubled-told : most_terms < 2 ^ total orders → named_told (kind_of kind) orders before begin ≡ Refused TooManyTerms
  unfolding kind_in
  doubled-told h =
      let none = ltb-false 0 (total (drop (orders_of k) orders)) passed.three in
      let least = least-terms k orders boys (omega arith) in
      let more : most_terms < length (terms_of k orders) = omega arith in
      ap (λ (m : Option Kind). named_told m orders before begin) passed.one
      ∙ simp (passed.two, passed.three, passed.five, lt-ltb most_terms (length (terms_of k orders)) more)

  -- and so is every L from an l on whose 2^l is above it
  pub doubled-from : (l : ℕ) → most_terms < 2 ^ l → l ≤ total orders → named_told (kind_of kind) orders before begin ≡ Refused TooManyTerms
  doubled-from l h g = doubled-told (let p = pow-le-pow_right {n = 2} (omega arith) g in omega arith)

  -- so it is of whatever fits the contract of `expand`
  pub doubled-four : (r : Answer) (after : List ℕ) → ExpandTold kind orders before begin r after → (l : ℕ) → most_terms < 2 ^ l → l ≤ total orders → r ≡ Refused TooManyTerms
  doubled-four r after told l h g = told.answer ∙ doubled-from l h g

-- The L from which on every Coulomb request is 4. It is changed with the limit, here alone: `one_more` fails until it is.
abbrev pub too_many_from : ℕ
too_many_from = 20

-- one term more than the limit is 2 to this power
pub one_more : most_terms + 1 ≡ 2 ^ too_many_from
one_more = refl

pub coulomb-four : (orders before : List ℕ) (begin : ℕ) (r : Answer) (after : List ℕ)
    → ExpandTold (number_of Coulomb) orders before begin r after → Passed (number_of Coulomb) orders before begin Coulomb → too_many_from ≤ total orders → r ≡ Refused TooManyTerms
coulomb-four orders before begin r after told passed =
    doubled-four (number_of Coulomb) orders before begin Coulomb passed refl r after told too_many_from (omega (arith, one_more))
