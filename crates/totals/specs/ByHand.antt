-- 02, Q-11: what is shown of the number by hand. proofs/Shown.antt proves `TotalByHand`; proofs/Written.antt `SameWritten`; proofs/Examples.antt the examples; proofs/RefusedAs.antt `RefusedAlike`.
use Rattle.std.specs.Prelude.{ℕ, ◌≡◌, true, List, [], ◌∷◌, length, drop, Some, None, Ok, Err}
use Rattle.laws.specs.Total.{total}
use Rattle.kind.specs.declared.Kind.{Kind}
use Rattle.kind.specs.declared.Kind.TheVariants.{Overlap, Kinetic, Nuclear, Moment, Coulomb}
use Rattle.kind.specs.Kinds.{kind_of, number_of, orders_of}
use Rattle.kind.specs.Limits.{request_orders}
use Rattle.steps.specs.States.{start}
use Rattle.histories.specs.Centres.{s, x1, x2, x3, at}
use Rattle.histories.specs.History.{expand}
use Rattle.expansion.specs.Answer.{Roll, Refused}
use Rattle.expansion.specs.Expanding.{ExpandTold, named_measured}
use Rattle.expansion.specs.Demands.{written_at}
use Rattle.totals.specs.Totals.{scale_sum, claimed, scale_total, total_of, roll_total_of}
use Rattle.kind.specs.declared.refusals.Refusal.{Refusal}

-- "Show it for every request": of all orders, with no limit, where those that the kind leaves unused are 0
abbrev pub TotalByHand : Type 0
TotalByHand = (k : Kind) (orders : List ℕ) → claimed k ≡ true → total (drop (orders_of k) orders) ≡ 0 → scale_sum (expand (start k orders)) ≡ scale_total k orders

-- ---- rolls

-- a request and the bytes of a roll: the number by hand and the sum of the roll's scales are the same
pub record SameTotal (kind : ℕ) (orders s : List ℕ) : Type 0 where
  pub k : Kind
  pub named : kind_of kind ≡ Some k
  pub by_hand : claimed k ≡ true → total_of kind orders ≡ Ok (Some (scale_total k orders))
  pub in-roll : claimed k ≡ true → roll_total_of s ≡ Ok (scale_total k orders)

-- "within the limits that isn't refused": of every call of `expansion::expand` that answers with a roll, by its contract, `ExpandTold`; the twelve orders are an array's
abbrev pub SameWritten : Type 0
SameWritten =
    (kind : ℕ) (orders before : List ℕ) (begin long count : ℕ) (after : List ℕ) → length orders ≡ request_orders
    → ExpandTold kind orders before begin (Roll long count) after → SameTotal kind orders (written_at after begin long)

-- ---- examples

pub record Example : Type 0 where
  pub kind : Kind
  pub orders : List ℕ
  pub sum : ℕ

-- a request, its orders x y z by centre, and what its scales add up to
abbrev pub gives : Kind → List ℕ → List ℕ → List ℕ → List ℕ → ℕ → Example
gives k a b c d n = record { kind = k; orders = at a b c d; sum = n }

-- "overlap Ax3 gives 4; nuclear Ax2 gives 6", and a moment with its operator
abbrev pub examples : List Example
examples = gives Overlap x3 s s s 4 ∷ gives Nuclear x2 s s s 6 ∷ gives Moment x1 s x1 s 2 ∷ []

-- the scales of the terms that the definitions give, the number by hand, and the answer
abbrev pub Holds : Example → Type 0
Holds e = (scale_sum (expand (start e.kind e.orders)) ≡ e.sum) × (scale_total e.kind e.orders ≡ e.sum) × (total_of (number_of e.kind) e.orders ≡ Ok (Some e.sum))

-- Of kinetic and Coulomb nothing is claimed: two requests with the same sums along x, y and z, whose scales add up to different numbers.
abbrev pub not_claimed : List Example
not_claimed = gives Kinetic x2 s s s 6 ∷ gives Kinetic x1 x1 s s 5 ∷ gives Coulomb x2 s s s 6 ∷ gives Coulomb x1 s x1 s 5 ∷ []

abbrev pub AddsUp : Example → Type 0
AddsUp e = (scale_sum (expand (start e.kind e.orders)) ≡ e.sum) × (total_of (number_of e.kind) e.orders ≡ Ok None)

abbrev pub Each : (Example → Type 0) → List Example → Type 0
Each p [] = Unit {0}
Each p (e ∷ es) = p e × Each p es

-- ---- refusals

-- 1, 2 and 3 are a request's: what is refused here is refused alike where the request is measured
abbrev pub RefusedAlike : Type 0
RefusedAlike = (kind : ℕ) (orders : List ℕ) (n : Refusal) → total_of kind orders ≡ Err n → named_measured (kind_of kind) orders ≡ Refused n
