-- 02, Q-10: "Only the nuclei's charges are looked at; other kinds ignore the charge." One law, over the kind: every other charge may hold anything.
use Prim.Native.Nat.{ℕ}
use mathlib.Core.Path.{◌≡◌, refl, ap}
use mathlib.Core.List.{List}
use lib.Ieee.{Float}
use Rattle.laws.specs.Total.{total}
use Rattle.kind.specs.declared.Kind.{Kind}
use Rattle.kind.specs.Refusals.{without_place}
use Rattle.kind.specs.declared.Kind.TheVariants.{Overlap, Kinetic, Nuclear, Moment, Coulomb}
use Rattle.term.specs.Terms.{Term}
use Rattle.geometry.specs.declared.Centre.{Centre}
use Rattle.geometry.specs.Charges.{charge_kept, charged}
use Rattle.geometry.proofs.Charges.{recharged, used-recharged, exponents-recharged, prefac-recharged, geometry-recharged}
use Rattle.roll.specs.Reading.{Reading, got, refused, Roll, roll_at}
use Rattle.integrals.specs.Sums.{kinetic_start, factor_of, integral_of}
use Rattle.integrals.specs.Values.{inputs_finite, value_of}
use Rattle.integrals.specs.Evaluation.{of_roll, evaluate_of}

-- the charge of C: a nucleus' own, or any other
abbrev pub charge_in : Kind → Centre → ℕ → ℕ
charge_in Overlap c q = q
charge_in Kinetic c q = q
charge_in Nuclear c q = c.charge
charge_in Moment c q = q
charge_in Coulomb c q = q

-- in a roll that reads, by its kind; in one that does not, any
abbrev pub charge_of_roll : Reading Roll → Centre → ℕ → ℕ
charge_of_roll (got r end) c q = charge_in r.kind c q
charge_of_roll (refused n place) c q = q

pub factor-recharged : (a b c d : Centre) (p q r s : ℕ) (k : Kind) (aux : Float) → factor_of k (recharged a p) (recharged b q) (recharged c r) (recharged d s) aux ≡ factor_of k a b c d aux
unfolding factor_of
factor-recharged a b c d p q r s Overlap aux = refl
factor-recharged a b c d p q r s Kinetic aux = refl
factor-recharged a b c d p q r s Nuclear aux = refl
factor-recharged a b c d p q r s Moment aux = refl
factor-recharged a b c d p q r s Coulomb aux = refl

module _ (a b c d : Centre) (p q r s : ℕ) where
  kept-recharged : (k : Kind) → charge_kept k (recharged c (charge_in k c r)) ≡ charge_kept k c
  unfolding charge_kept
  kept-recharged Overlap = refl
  kept-recharged Kinetic = refl
  kept-recharged Nuclear = refl
  kept-recharged Moment = refl
  kept-recharged Coulomb = refl

  charged-recharged : (k : Kind) (x : Float) → charged k (recharged c (charge_in k c r)) x ≡ charged k c x
  unfolding charged
  charged-recharged Overlap x = refl
  charged-recharged Kinetic x = refl
  charged-recharged Nuclear x = refl
  charged-recharged Moment x = refl
  charged-recharged Coulomb x = refl

  module _ (aux : Float) (boys : List Float) where
    pub value-recharged : (k : Kind) (l : ℕ) (ts : List Term) → value_of k l (recharged a p) (recharged b q) (recharged c (charge_in k c r)) (recharged d s) aux boys ts ≡ value_of k l a b c d aux boys ts
    unfolding value_of inputs_finite integral_of kinetic_start
    value-recharged k l ts =
        let t = charge_in k c r in
        rw (kept-recharged k, used-recharged a b c d p q t s k, exponents-recharged a b c d p q t s k, geometry-recharged a b c d p q t s k, prefac-recharged a b c d p q t s k, factor-recharged a b c d p q t s k aux, charged-recharged k (integral_of k l a b c d aux boys ts))

    by-reading : (x : Reading Roll) → of_roll x (recharged a p) (recharged b q) (recharged c (charge_of_roll x c r)) (recharged d s) aux boys ≡ of_roll x a b c d aux boys
    unfolding of_roll
    by-reading (got x end) = ap without_place (value-recharged x.kind (total x.orders) x.terms)
    by-reading (refused n place) = refl

    -- every answer of an evaluation, for every roll
    pub evaluate-recharged : (roll : List ℕ) → evaluate_of roll (recharged a p) (recharged b q) (recharged c (charge_of_roll (roll_at roll) c r)) (recharged d s) aux boys ≡ evaluate_of roll a b c d aux boys
    unfolding evaluate_of
    evaluate-recharged roll = by-reading (roll_at roll)
