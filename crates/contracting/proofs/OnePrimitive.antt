-- One primitive on each side, with norms and coefficients 1.0: the plain evaluation of its two centres, its value v under the two sums as 0.0 + (0.0 + v).
use Prim.Native.Nat.{ℕ}
use mathlib.Core.Path.{◌≡◌, refl, sym, ap, ◌∙◌}
use mathlib.Core.Bool.{Bool, true, false, and-true, false≢true}
use mathlib.Core.List.{List, [], ◌∷◌}
use lib.Dec.{T}
use lib.Ieee.{Float, binary64, fits, of_bits}
use lib.Ieee.Bits.{of_bits-fits}
use lib.Ieee.Fits.{add-fits}
use lib.Ieee.Scale.{finite}
use Rattle.laws.specs.Total.{total}
use Rattle.laws.specs.Unless.{unless}
use Rattle.laws.proofs.Cases.{tested, clash}
use Rattle.std.specs.Prelude.{Ok, Err}
use Rattle.kind.specs.declared.refusals.Refusal.TheVariants.{WrongKind, InputNotFinite, Exponent, ResultNotFinite}
use Rattle.kind.specs.Refusals.{unplaced, without_place}
use Rattle.kind.specs.declared.Kind.{Kind}
use Rattle.kind.specs.declared.Kind.TheVariants.{Overlap, Kinetic, Nuclear, Moment, Coulomb}
use Rattle.term.specs.Terms.{Term}
use Rattle.roll.specs.Reading.{Reading, got, refused, Roll, roll_at}
use Rattle.geometry.specs.declared.Centre.{Centre}
use Rattle.geometry.specs.Floats.{◌⊕◌, ◌⊗◌, zero as 0·0, one, all_finite}
use Rattle.geometry.specs.Checks.{exponents_above_zero, geometry_finite}
use Rattle.integrals.specs.Sums.{sum_from, total_of, integral_of}
use Rattle.integrals.specs.Values.{Value, inputs_finite, refused_unless, result_of, value_of}
use Rattle.integrals.specs.Evaluation.{Answer, of_roll as evaluated_of, evaluate_of}
use Rattle.contracting.specs.declared.Primitive.{Primitive}
use Rattle.contracting.specs.declared.Contracted.{Contracted}
use Rattle.contracting.specs.Pairs.{counted, primitives_of, Pair, Row, pairs_with, rows_from, rows_of, all_pairs}
use Rattle.contracting.specs.Elements.{contracts, pair_finite, pair_above_zero, pair_geometry, pair_value, share_of, inner_from, inner_of, outer_from, element_of, checked_of, of_roll, contracted_of}
use Rattle.contracting.proofs.Carried.{sum-finite}
use Rattle.contracting.proofs.OneTimes.{one-times, minus_zero, zero-plus}
use Rattle.contracting.proofs.PlainPairs.{finite-any, above-any, geometry-any, integral-any, evaluated}
use Rattle.std.specs.List.{list_all}

-- a function of one primitive; anything may lie beyond it
abbrev pub plain : Centre → Primitive
plain c = record { centre = c; norm = one; coefficient = one }

abbrev pub lone : Centre → List Primitive → Contracted
lone c rest = record { primitives = plain c ∷ rest; count = 1 }

-- an evaluation's value under both sums
abbrev pub summed_twice : Answer → Answer
summed_twice (Ok v) = without_place (result_of (0·0 ⊕ (0·0 ⊕ v)))
summed_twice (Err why) = Err why

-- 1 for a roll of another kind, once it has been read
abbrev pub of_these_kinds : Reading Roll → Answer → Answer
of_these_kinds (got roll end) v = unless (contracts roll.kind) (Err (unplaced WrongKind)) v
of_these_kinds (refused r place) v = v

-- the same of what has no place
abbrev twice : Value → Value
twice (Ok v) = result_of (0·0 ⊕ (0·0 ⊕ v))
twice (Err r) = Err r

twice-outside : (v : Value) → without_place (twice v) ≡ summed_twice (without_place v)
twice-outside (Ok v) = refl
twice-outside (Err r) = refl

value-in : (v : Value) (x : Float) → without_place v ≡ Ok x → v ≡ Ok x
value-in (Ok y) x e = cc
value-in (Err r) x e = absurd (clash (cc))

-- ---- sums

sum_fits : (adds : Term → Float) (ts : List Term) (sum : Float) → T (fits binary64 sum) → T (fits binary64 (sum_from adds ts sum))
unfolding sum_from
sum_fits adds [] sum t = t
sum_fits adds (x ∷ xs) sum t = sum_fits adds xs (sum ⊕ adds x) (add-fits binary64 sum (adds x))

both-results : (v : Float) → refused_unless (finite v) ResultNotFinite (refused_unless (finite (0·0 ⊕ v)) ResultNotFinite (result_of (0·0 ⊕ (0·0 ⊕ v)))) ≡ twice (result_of v)
unfolding refused_unless result_of
both-results v =
    tested (finite v)
    (λ e. tested (finite (0·0 ⊕ v)) (λ f. rw (e, f)) (λ f. rw (e, f, not_after f)))
    (λ e. rw (e))
  where
    not_after : finite (0·0 ⊕ v) ≡ false → finite (0·0 ⊕ (0·0 ⊕ v)) ≡ false
    not_after f = tested (finite (0·0 ⊕ (0·0 ⊕ v))) (λ e. absurd (false≢true (sym f ∙ (sum-finite 0·0 (0·0 ⊕ v) e).1))) (λ e. e)

in_order : (i e g : Bool) (v : Float) → refused_unless i InputNotFinite (refused_unless e Exponent (refused_unless g ResultNotFinite (refused_unless (finite v) ResultNotFinite (refused_unless (finite (0·0 ⊕ v)) ResultNotFinite (result_of (0·0 ⊕ (0·0 ⊕ v))))))) ≡ twice (refused_unless i InputNotFinite (refused_unless e Exponent (refused_unless g ResultNotFinite (result_of v))))
unfolding refused_unless
in_order true true true v = both-results v
in_order true true false v = refl
in_order true false g v = refl
in_order false e g v = refl

-- an evaluation's value that is not −0.0 comes back from both sums as it is
given-value : (i e g : Bool) (v x : Float) → refused_unless i InputNotFinite (refused_unless e Exponent (refused_unless g ResultNotFinite (result_of v))) ≡ Ok x → (x ≡ v) × (finite v ≡ true)
unfolding refused_unless result_of
given-value false e g v x is = absurd (clash (cc))
given-value true false g v x is = absurd (clash (cc))
given-value true true false v x is = absurd (clash (cc))
given-value true true true v x is = tested (finite v) (λ f. (value-same v x (rw (f) at is), f)) (λ f. absurd (refused-not x (rw (f) at is)))
  where
    value-same : (v x : Float) → ◌≡◌ {A = Value} (Ok v) (Ok x) → x ≡ v
    value-same v x e = cc

    refused-not : (x : Float) → ◌≡◌ {A = Value} (Err ResultNotFinite) (Ok x) → ⊥
    refused-not x e = clash (cc)

same-result : (v : Float) → T (fits binary64 v) → minus_zero v ≡ false → finite v ≡ true → result_of (0·0 ⊕ (0·0 ⊕ v)) ≡ Ok v
unfolding refused_unless result_of
same-result v t e f = rw (zero-plus v t e, zero-plus v t e, f)

-- ---- one pair

module _ (a b c d : Centre) (aux : Float) where
  abbrev pair : Pair
  pair = record { left = plain a; right = plain b; aux = aux }

  abbrev rows : List Row
  rows = record { right = plain b; pairs = pair ∷ [] } ∷ []

  module _ (k : Kind) (kept : contracts k ≡ true) where
    finite-plain : list_all (pair_finite k) (pair ∷ []) ≡ inputs_finite k a b c d aux []
    unfolding pair_finite all_finite of_bits
    finite-plain = and-true _ ∙ and-true _ ∙ finite-any a b c d aux k kept

    above-plain : list_all (pair_above_zero k) (pair ∷ []) ≡ exponents_above_zero k a b c d
    unfolding pair_above_zero
    above-plain = and-true _ ∙ above-any a b c d k kept

    geometry-plain : list_all (pair_geometry k) (pair ∷ []) ≡ geometry_finite k a b c d
    unfolding pair_geometry
    geometry-plain = and-true _ ∙ geometry-any a b c d k kept

  module _ (l : ℕ) (ts : List Term) where
    value-fits : (k : Kind) → contracts k ≡ true → T (fits binary64 (integral_of k l a b c d aux [] ts))
    unfolding contracts integral_of total_of
    value-fits Overlap e = sum_fits _ ts 0·0 (of_bits-fits binary64 0)
    value-fits Kinetic e = sum_fits _ ts 0·0 (of_bits-fits binary64 0)
    value-fits Nuclear e = absurd (false≢true e)
    value-fits Moment e = absurd (false≢true e)
    value-fits Coulomb e = absurd (false≢true e)

    module _ (k : Kind) (kept : contracts k ≡ true) where
      abbrev v : Float
      v = integral_of k l a b c d aux [] ts

      value-plain : pair_value k l ts pair ≡ v
      unfolding pair_value
      value-plain = integral-any a b c d aux l ts k kept

      share-plain : share_of (pair_value k l ts) pair ≡ v
      unfolding share_of
      share-plain =
          let norms : one ⊗ one ≡ one = one-times one (of_bits-fits binary64 0x3ff0_0000_0000_0000) in
          let value : one ⊗ one ⊗ pair_value k l ts pair ≡ v = rw (norms, value-plain) (one-times v (value-fits k kept)) in
          rw (value) (one-times v (value-fits k kept))

      inner-plain : inner_from (pair_value k l ts) (pair ∷ []) 0·0 ≡ 0·0 ⊕ v
      unfolding inner_from
      inner-plain = rw (share-plain)

      outer-plain : outer_from (pair_value k l ts) rows 0·0 ≡ 0·0 ⊕ (0·0 ⊕ v)
      unfolding outer_from inner_of
      outer-plain = rw (inner-plain) (ap (λ (x : Float). 0·0 ⊕ x) (one-times (0·0 ⊕ v) (add-fits binary64 0·0 v)))

      values-plain : list_all (λ (p : Pair). finite (pair_value k l ts p)) (pair ∷ []) ≡ finite v
      values-plain = rw (value-plain) (and-true (finite v))

      inners-plain : list_all (λ (row : Row). finite (inner_of (pair_value k l ts) row)) rows ≡ finite (0·0 ⊕ v)
      unfolding inner_of
      inners-plain = rw (inner-plain) (and-true (finite (0·0 ⊕ v)))

      pairs-plain : all_pairs rows ≡ pair ∷ []
      unfolding all_pairs
      pairs-plain = refl

      checked-plain : checked_of k l ts rows ≡ twice (value_of k l a b c d aux [] ts)
      unfolding checked_of element_of
      checked-plain =
          rw (pairs-plain, finite-plain k kept, above-plain k kept, geometry-plain k kept, values-plain, inners-plain, outer-plain)
          (in_order (inputs_finite k a b c d aux []) (exponents_above_zero k a b c d) (geometry_finite k a b c d) v ∙ ap twice (sym (evaluated a b c d aux l ts k kept)))

    value-back : (k : Kind) → contracts k ≡ true → (x : Float) → value_of k l a b c d aux [] ts ≡ Ok x → minus_zero x ≡ false → twice (value_of k l a b c d aux [] ts) ≡ Ok x
    value-back k kept x is not =
        let given = given-value (inputs_finite k a b c d aux []) (exponents_above_zero k a b c d) (geometry_finite k a b c d) (integral_of k l a b c d aux [] ts) x (sym (evaluated a b c d aux l ts k kept) ∙ is) in
        let fit : T (fits binary64 x) = rw given.0 (value-fits k kept) in
        ap twice is ∙ same-result x fit not (rw given.0 given.1)

  by-reading : (x : Reading Roll) → of_roll x rows ≡ of_these_kinds x (summed_twice (evaluated_of x a b c d aux []))
  unfolding of_roll evaluated_of refused_unless unless
  by-reading (got r end) =
      tested (contracts r.kind)
      (λ kept. rw (kept) (ap without_place (checked-plain (total r.orders) r.terms r.kind kept) ∙ twice-outside (value_of r.kind (total r.orders) a b c d aux [] r.terms)))
      (λ not. rw (not))
  by-reading (refused n place) = refl

  -- every answer, for every roll, whatever C and D
  pub one-primitive : (s : List ℕ) (beyond beyond' : List Primitive) → contracted_of s (lone a beyond) (lone b beyond') (aux ∷ []) ≡ of_these_kinds (roll_at s) (summed_twice (evaluate_of s a b c d aux []))
  unfolding contracted_of counted unless rows_of primitives_of rows_from pairs_with evaluate_of
  one-primitive s beyond beyond' = by-reading (roll_at s)

  -- so a value that is not −0.0 is the plain evaluation's, bit for bit
  pub one-primitive-value : (s : List ℕ) (beyond beyond' : List Primitive) (r : Roll) (end : ℕ) (x : Float) → roll_at s ≡ got r end → contracts r.kind ≡ true → evaluate_of s a b c d aux [] ≡ Ok x → minus_zero x ≡ false → contracted_of s (lone a beyond) (lone b beyond') (aux ∷ []) ≡ Ok x
  unfolding evaluate_of evaluated_of unless
  one-primitive-value s beyond beyond' r end x reads kept is not =
      let value = value-in (value_of r.kind (total r.orders) a b c d aux [] r.terms) x (rw (reads) at is) in
      one-primitive s beyond beyond' ∙ rw (reads, kept) (sym (twice-outside (value_of r.kind (total r.orders) a b c d aux [] r.terms)) ∙ ap without_place (value-back (total r.orders) r.terms r.kind kept x value not))
