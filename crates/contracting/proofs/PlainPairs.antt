-- The plain evaluation of a pair, whatever C and D: over rolls of overlap and kinetic it is 8, 9, 11 or the value. So the checks of an element are 01's own, each made
-- over all pairs before the next one.
use Prim.Native.Nat.{ℕ}
use mathlib.Core.Path.{◌≡◌, refl, sym, ap, ◌∙◌}
use mathlib.Core.Bool.{Bool, true, false, ◌&&◌, false≢true}
use mathlib.Core.List.Memᴰ
use mathlib.Core.List.{List, [], ◌∷◌, Memᴰ}
use mathlib.Core.Logic.{◌⊎◌, inl, inr}
use lib.Ieee.{Float}
use lib.Ieee.Scale.{finite}
use Rattle.laws.proofs.Cases.{tested, and-true-both, clash}
use Rattle.kind.specs.declared.Kind.{Kind}
use Rattle.kind.specs.declared.Kind.TheVariants.{Overlap, Kinetic, Nuclear, Moment, Coulomb}
use Rattle.term.specs.Terms.{Term}
use Rattle.geometry.specs.declared.Centre.{Centre}
use Rattle.geometry.specs.Floats.{all_finite}
use Rattle.geometry.specs.Geometry.{geometry_numbers}
use Rattle.geometry.specs.Tables.{entries_of, prefac}
use Rattle.geometry.specs.Charges.{charge_kept, charged}
use Rattle.geometry.specs.Checks.{used, used_finite, exponents, exponents_above_zero, finite_with, geometry_finite}
use Rattle.integrals.specs.Sums.{factor_of, integral_of}
use Rattle.integrals.specs.Values.{Value, inputs_finite, boys_counted, refused_unless, result_of, value_of}
use Rattle.contracting.specs.Pairs.{Pair, Row, all_pairs}
use Rattle.contracting.specs.Elements.{contracts, pair_finite, pair_above_zero, pair_geometry, pair_value, inner_of, element_of, checked_of}
use Rattle.std.specs.List.{list_all}
use Rattle.std.specs.Prelude.{Ok, Err}
use Rattle.kind.specs.declared.refusals.Refusal.TheVariants.{InputNotFinite, Exponent, ResultNotFinite}

-- ---- nothing of C and D is looked at

module _ (a b c d : Centre) where
  pub finite-any : (aux : Float) (k : Kind) → contracts k ≡ true → inputs_finite k a b a b aux [] ≡ inputs_finite k a b c d aux []
  unfolding contracts inputs_finite used_finite used
  finite-any aux Overlap e = refl
  finite-any aux Kinetic e = refl
  finite-any aux Nuclear e = absurd (false≢true e)
  finite-any aux Moment e = absurd (false≢true e)
  finite-any aux Coulomb e = absurd (false≢true e)

  pub above-any : (k : Kind) → contracts k ≡ true → exponents_above_zero k a b a b ≡ exponents_above_zero k a b c d
  unfolding contracts exponents_above_zero exponents
  above-any Overlap e = refl
  above-any Kinetic e = refl
  above-any Nuclear e = absurd (false≢true e)
  above-any Moment e = absurd (false≢true e)
  above-any Coulomb e = absurd (false≢true e)

  pub geometry-any : (k : Kind) → contracts k ≡ true → geometry_finite k a b a b ≡ geometry_finite k a b c d
  unfolding contracts geometry_finite finite_with geometry_numbers prefac entries_of
  geometry-any Overlap e = refl
  geometry-any Kinetic e = refl
  geometry-any Nuclear e = absurd (false≢true e)
  geometry-any Moment e = absurd (false≢true e)
  geometry-any Coulomb e = absurd (false≢true e)

  module _ (aux : Float) (l : ℕ) (ts : List Term) where
    pub integral-any : (k : Kind) → contracts k ≡ true → integral_of k l a b a b aux [] ts ≡ integral_of k l a b c d aux [] ts
    unfolding contracts integral_of factor_of prefac entries_of
    integral-any Overlap e = refl
    integral-any Kinetic e = refl
    integral-any Nuclear e = absurd (false≢true e)
    integral-any Moment e = absurd (false≢true e)
    integral-any Coulomb e = absurd (false≢true e)

    -- 17 and 10 never come
    pub evaluated : (k : Kind) → contracts k ≡ true → value_of k l a b c d aux [] ts ≡ refused_unless (inputs_finite k a b c d aux []) InputNotFinite (refused_unless (exponents_above_zero k a b c d) Exponent (refused_unless (geometry_finite k a b c d) ResultNotFinite (result_of (integral_of k l a b c d aux [] ts))))
    unfolding contracts value_of charge_kept charged boys_counted refused_unless
    evaluated Overlap e = refl
    evaluated Kinetic e = refl
    evaluated Nuclear e = absurd (false≢true e)
    evaluated Moment e = absurd (false≢true e)
    evaluated Coulomb e = absurd (false≢true e)

-- ---- what a refusal says of the checks

abbrev chain : Bool → Bool → Bool → Bool → Value → Value
chain i e g f v = refused_unless i InputNotFinite (refused_unless e Exponent (refused_unless g ResultNotFinite (refused_unless f ResultNotFinite v)))

says-eight : (i e g f : Bool) (v : Float) → chain i e g f (Ok v) ≡ Err InputNotFinite → i ≡ false
unfolding refused_unless
says-eight false e g f v is = refl
says-eight true false g f v is = absurd (clash (cc))
says-eight true true false f v is = absurd (clash (cc))
says-eight true true true false v is = absurd (clash (cc))
says-eight true true true true v is = absurd (clash (cc))

says-nine : (i e g f : Bool) (v : Float) → chain i e g f (Ok v) ≡ Err Exponent → e ≡ false
unfolding refused_unless
says-nine false e g f v is = absurd (clash (cc))
says-nine true false g f v is = refl
says-nine true true false f v is = absurd (clash (cc))
says-nine true true true false v is = absurd (clash (cc))
says-nine true true true true v is = absurd (clash (cc))

says-eleven : (i e g f : Bool) (v : Float) → chain i e g f (Ok v) ≡ Err ResultNotFinite → (g && f) ≡ false
unfolding refused_unless
says-eleven false e g f v is = absurd (clash (cc))
says-eleven true false g f v is = absurd (clash (cc))
says-eleven true true false f v is = refl
says-eleven true true true false v is = refl
says-eleven true true true true v is = absurd (clash (cc))

says_none : (i e g f : Bool) (v : Value) (x : Float) → chain i e g f v ≡ Ok x → (i ≡ true) × (e ≡ true) × (g ≡ true) × (f ≡ true)
unfolding refused_unless
says_none false e g f v x is = absurd (clash (cc))
says_none true false g f v x is = absurd (clash (cc))
says_none true true false f v x is = absurd (clash (cc))
says_none true true true false v x is = absurd (clash (cc))
says_none true true true true v x is = (refl, refl, refl, refl)

-- ---- a check of all is a check of each

of-each : {A : Type 0} (P : A → Bool) (xs : List A) (x : A) → Memᴰ x xs → list_all P xs ≡ true → P x ≡ true
of-each P [] x m e = absurd (Memᴰ.not-nil m)
of-each {A = A} P (y ∷ ys) x m e = by (Memᴰ.cases_cons m) (and-true-both (P y) (list_all P ys) e) (of-each P ys x)
  where
    by : (x ≡ y) ⊎ Memᴰ x ys → (P y ≡ true) × (list_all P ys ≡ true) → (Memᴰ x ys → list_all P ys ≡ true → P x ≡ true) → P x ≡ true
    by (inl same) both rest = ap P same ∙ both.0
    by (inr later) both rest = rest later both.1

not-all : {A : Type 0} (P : A → Bool) (xs : List A) (x : A) → Memᴰ x xs → P x ≡ false → list_all P xs ≡ false
not-all P xs x m f = tested (list_all P xs) (λ e. absurd (false≢true (sym f ∙ of-each P xs x m e))) (λ e. e)

-- ---- a pair of an element, and its plain evaluation

module _ (k : Kind) (l : ℕ) (ts : List Term) (rows : List Row) (kept : contracts k ≡ true) (p : Pair) (one : Memᴰ p (all_pairs rows)) (c d : Centre) where
  abbrev plainly : Value
  plainly = value_of k l p.left.centre p.right.centre c d p.aux [] ts

  abbrev inputs : Bool
  inputs = inputs_finite k p.left.centre p.right.centre p.left.centre p.right.centre p.aux []

  abbrev factors : Bool
  factors = all_finite (p.left.norm ∷ p.right.norm ∷ p.left.coefficient ∷ p.right.coefficient ∷ [])

  abbrev value : Float
  value = pair_value k l ts p

  plain-is : plainly ≡ chain inputs (pair_above_zero k p) (pair_geometry k p) (finite value) (Ok value)
  unfolding pair_above_zero pair_geometry pair_value result_of
  plain-is =
      let a = p.left.centre in
      let b = p.right.centre in
      evaluated a b c d p.aux l ts k kept ∙ rw (← finite-any a b c d p.aux k kept, ← above-any a b c d k kept, ← geometry-any a b c d k kept, ← integral-any a b c d p.aux l ts k kept)

  -- an element is given only where each pair's evaluation gives its value
  pub each-evaluates : (x : Float) → checked_of k l ts rows ≡ Ok x → plainly ≡ Ok (pair_value k l ts p)
  unfolding checked_of pair_finite refused_unless
  each-evaluates x is =
      let all = says_none (list_all (pair_finite k) (all_pairs rows)) (list_all (pair_above_zero k) (all_pairs rows)) (list_all (pair_geometry k) (all_pairs rows)) (list_all (λ (p : Pair). finite (pair_value k l ts p)) (all_pairs rows)) (refused_unless (list_all (λ (row : Row). finite (inner_of (pair_value k l ts) row)) rows) ResultNotFinite (result_of (element_of (pair_value k l ts) rows))) x is in
      let fine = (and-true-both inputs factors (of-each (pair_finite k) (all_pairs rows) p one all.0)).0 in
      plain-is ∙ rw (fine, of-each (pair_above_zero k) (all_pairs rows) p one all.1, of-each (pair_geometry k) (all_pairs rows) p one all.2, of-each (λ (p : Pair). finite (pair_value k l ts p)) (all_pairs rows) p one all.3)

  -- 8 of one pair is 8, whatever the others give; then 9, then 11
  pub eight-first : plainly ≡ Err InputNotFinite → checked_of k l ts rows ≡ Err InputNotFinite
  unfolding checked_of pair_finite refused_unless
  eight-first is =
      let not = says-eight inputs (pair_above_zero k p) (pair_geometry k p) (finite value) value (sym plain-is ∙ is) in
      rw (not-all (pair_finite k) (all_pairs rows) p one (ap (λ (b : Bool). b && factors) not))

  module _ (finites : list_all (pair_finite k) (all_pairs rows) ≡ true) where
    pub then-nine : plainly ≡ Err Exponent → checked_of k l ts rows ≡ Err Exponent
    unfolding checked_of refused_unless
    then-nine is =
        let above = says-nine inputs (pair_above_zero k p) (pair_geometry k p) (finite value) value (sym plain-is ∙ is) in
        rw (finites, not-all (pair_above_zero k) (all_pairs rows) p one above)

    pub then-eleven : list_all (pair_above_zero k) (all_pairs rows) ≡ true → plainly ≡ Err ResultNotFinite → checked_of k l ts rows ≡ Err ResultNotFinite
    unfolding checked_of refused_unless
    then-eleven aboves is =
        let either = says-eleven inputs (pair_above_zero k p) (pair_geometry k p) (finite value) value (sym plain-is ∙ is) in
        tested (list_all (pair_geometry k) (all_pairs rows))
        (λ geometry.
        let not : finite value ≡ false = rw (of-each (pair_geometry k) (all_pairs rows) p one geometry) at either in
        rw (finites, aboves, geometry, not-all (λ (p : Pair). finite (pair_value k l ts p)) (all_pairs rows) p one not))
        (λ not. rw (finites, aboves, not))
