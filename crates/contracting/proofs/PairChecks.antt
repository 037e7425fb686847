-- 8 and 9 over all pairs are 8 and 9 of every primitive and of every host number.
use Prim.Native.Nat.{◌*◌, ◌<◌, ◌≤◌}
use mathlib.Core.Path.{◌≡◌, refl, sym, ◌∙◌}
use mathlib.Core.Bool.{Bool, true, false, ◌&&◌, and-true, false≢true}
use mathlib.Core.List.{List, [], ◌∷◌, ◌++◌}
use lib.Ieee.{Float, of_bits}
use lib.Ieee.Scale.{finite}
use lib.ListN.{length}
use Rattle.kind.specs.declared.Kind.{Kind}
use Rattle.kind.specs.declared.Kind.TheVariants.{Overlap, Kinetic, Nuclear, Moment, Coulomb}
use Rattle.laws.proofs.Cases.{and-true-both}
use Rattle.geometry.specs.Floats.{zero as 0·0, above_zero, all_finite, all_above_zero}
use Rattle.geometry.specs.Checks.{whole, used, used_finite, exponents, exponents_above_zero}
use Rattle.geometry.proofs.FiniteFloats.{finite-both}
use Rattle.integrals.specs.Values.{inputs_finite}
use Rattle.contracting.specs.declared.Primitive.{Primitive}
use Rattle.contracting.specs.Pairs.{Pair, rows_from, all_pairs}
use Rattle.contracting.specs.Elements.{contracts, pair_finite, pair_above_zero}
use Rattle.contracting.specs.inner.Summed.{finite_primitive, above_primitive, all_finite_of, all_above_of}
use Rattle.contracting.proofs.EachPair.{over-all-pairs}
use Rattle.std.specs.List.{list_all}

-- ---- of one pair

finite-is : (k : Kind) (p : Pair) → contracts k ≡ true → pair_finite k p ≡ (all_finite (whole p.left.centre ++ whole p.right.centre) && (finite p.aux && true)) && (finite p.left.norm && (finite p.right.norm && (finite p.left.coefficient && (finite p.right.coefficient && true))))
unfolding contracts pair_finite inputs_finite used_finite used all_finite
finite-is Overlap p e = refl
finite-is Kinetic p e = refl
finite-is Nuclear p e = absurd (false≢true e)
finite-is Moment p e = absurd (false≢true e)
finite-is Coulomb p e = absurd (false≢true e)

above-is : (k : Kind) (p : Pair) → contracts k ≡ true → pair_above_zero k p ≡ above_zero p.left.centre.exponent && (above_zero p.right.centre.exponent && true)
unfolding contracts pair_above_zero exponents_above_zero exponents all_above_zero
above-is Overlap p e = refl
above-is Kinetic p e = refl
above-is Nuclear p e = absurd (false≢true e)
above-is Moment p e = absurd (false≢true e)
above-is Coulomb p e = absurd (false≢true e)

-- a primitive's floats are its centre's, its norm and its coefficient
primitive-is : (p : Primitive) → finite_primitive p ≡ all_finite (whole p.centre) && (finite p.norm && (finite p.coefficient && true))
unfolding finite_primitive all_finite
primitive-is p = finite-both (whole p.centre) (p.norm ∷ p.coefficient ∷ [])

-- seven tests of a pair: three of each primitive, and the host number's
apart-seven : (wa wb x na nb ca cb : Bool) → (((wa && wb) && (x && true)) && (na && (nb && (ca && (cb && true))))) ≡ true → ((wa && (na && (ca && true))) ≡ true) × ((wb && (nb && (cb && true))) ≡ true) × (x ≡ true)
apart-seven true true true true true true true e = (refl, refl, refl)
apart-seven false wb x na nb ca cb e = absurd (false≢true e)
apart-seven true false x na nb ca cb e = absurd (false≢true e)
apart-seven true true false na nb ca cb e = absurd (false≢true e)
apart-seven true true true false nb ca cb e = absurd (false≢true e)
apart-seven true true true true false ca cb e = absurd (false≢true e)
apart-seven true true true true true false cb e = absurd (false≢true e)
apart-seven true true true true true true false e = absurd (false≢true e)

joined-seven : (wa wb x na nb ca cb : Bool) → (wa && (na && (ca && true))) ≡ true → (wb && (nb && (cb && true))) ≡ true → x ≡ true → (((wa && wb) && (x && true)) && (na && (nb && (ca && (cb && true))))) ≡ true
joined-seven true true true true true true true e f g = refl
joined-seven false wb x na nb ca cb e f g = absurd (false≢true e)
joined-seven true false x na nb ca cb e f g = absurd (false≢true f)
joined-seven true true false na nb ca cb e f g = absurd (false≢true g)
joined-seven true true true false nb ca cb e f g = absurd (false≢true e)
joined-seven true true true true false ca cb e f g = absurd (false≢true f)
joined-seven true true true true true false cb e f g = absurd (false≢true e)
joined-seven true true true true true true false e f g = absurd (false≢true f)

module _ (k : Kind) (kept : contracts k ≡ true) where
  finite-apart : (p : Pair) → pair_finite k p ≡ true → (finite_primitive p.left ≡ true) × (finite_primitive p.right ≡ true) × (finite p.aux ≡ true)
  finite-apart p e =
      let a = p.left in
      let b = p.right in
      let three = apart-seven (all_finite (whole a.centre)) (all_finite (whole b.centre)) (finite p.aux) (finite a.norm) (finite b.norm) (finite a.coefficient) (finite b.coefficient) (rw (finite-is k p kept, finite-both (whole a.centre) (whole b.centre)) at e) in
      (primitive-is a ∙ three.0, primitive-is b ∙ three.1, three.2)

  finite-joined : (p : Pair) → finite_primitive p.left ≡ true → finite_primitive p.right ≡ true → finite p.aux ≡ true → pair_finite k p ≡ true
  finite-joined p e f g =
      let a = p.left in
      let b = p.right in
      rw (finite-is k p kept, finite-both (whole a.centre) (whole b.centre))
      (joined-seven (all_finite (whole a.centre)) (all_finite (whole b.centre)) (finite p.aux) (finite a.norm) (finite b.norm) (finite a.coefficient) (finite b.coefficient) (sym (primitive-is a) ∙ e) (sym (primitive-is b) ∙ f) g)

  above_apart : (p : Pair) → pair_above_zero k p ≡ true → (above_primitive p.left ≡ true) × (above_primitive p.right ≡ true) × (true ≡ true)
  unfolding above_primitive
  above_apart p e =
      let one = and-true-both (above_zero p.left.centre.exponent) (above_zero p.right.centre.exponent && true) (sym (above-is k p kept) ∙ e) in
      (one.0, (and-true-both (above_zero p.right.centre.exponent) true one.1).0, refl)

  above-joined : (p : Pair) → above_primitive p.left ≡ true → above_primitive p.right ≡ true → true ≡ true → pair_above_zero k p ≡ true
  unfolding above_primitive
  above-joined p e f g = rw (above-is k p kept, e, f)

  -- ---- of all pairs

  every-finite : (xs : List Float) → list_all finite xs ≡ all_finite xs
  unfolding all_finite
  every-finite [] = refl
  every-finite (x ∷ xs) = rw (every-finite xs)

  no-check : (xs : List Float) → list_all (λ (x : Float). true) xs ≡ true
  no-check [] = refl
  no-check (x ∷ xs) = no-check xs

  nought-finite : finite 0·0 ≡ true
  unfolding of_bits
  nought-finite = refl

  module _ (lefts rights : List Primitive) (host : List Float) (left : 0 < length lefts) (right : 0 < length rights) (room : length host ≤ length rights * length lefts) where
    pub finite-over-pairs : list_all (pair_finite k) (all_pairs (rows_from host lefts 0 rights)) ≡ all_finite_of lefts rights host
    unfolding all_finite_of
    finite-over-pairs = rw (over-all-pairs (pair_finite k) finite_primitive finite nought-finite finite-apart finite-joined host lefts rights left right room, every-finite host)

    pub above-over-pairs : list_all (pair_above_zero k) (all_pairs (rows_from host lefts 0 rights)) ≡ all_above_of lefts rights
    unfolding all_above_of
    above-over-pairs = rw (over-all-pairs (pair_above_zero k) above_primitive (λ (x : Float). true) refl above_apart above-joined host lefts rights left right room, no-check host, and-true (list_all above_primitive rights))
