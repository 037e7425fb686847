-- 02, Q-10: "Contracted calls from Q-1 take the new record too", and "other kinds ignore the charge": no charge of a primitive is looked at.
use Prim.Native.Nat.{ℕ, zero, suc, ◌*◌}
use mathlib.Core.Path.{◌≡◌, refl, sym, ap, ◌∙◌}
use mathlib.Core.Bool.{Bool}
use mathlib.Core.List.{List, [], ◌∷◌}
use lib.Ieee.{Float}
use lib.Ieee.Scale.{finite}
use lib.ListN.{length, get_or, take}
use Rattle.laws.specs.Total.{total}
use Rattle.kind.specs.declared.Kind.{Kind}
use Rattle.term.specs.Terms.{Term}
use Rattle.geometry.specs.Floats.{◌⊕◌, ◌⊗◌, zero as 0·0}
use Rattle.geometry.proofs.Charges.{recharged, used-recharged, exponents-recharged, prefac-recharged, geometry-recharged}
use Rattle.integrals.specs.Sums.{kinetic_start, integral_of}
use Rattle.integrals.specs.Values.{inputs_finite}
use Rattle.integrals.proofs.Charges.{factor-recharged}
use Rattle.roll.specs.Reading.{Reading, got, refused, Roll, roll_at}
use Rattle.contracting.specs.declared.Primitive.{Primitive}
use Rattle.contracting.specs.declared.Contracted.{Contracted}
use Rattle.contracting.specs.Pairs.{primitives_of, Pair, Row, pairs_with, rows_from, rows_of, all_pairs}
use Rattle.contracting.specs.Elements.{pair_finite, pair_above_zero, pair_geometry, pair_value, share_of, inner_from, inner_of, outer_from, element_of, checked_of, of_roll, contracted_of}
use Rattle.std.proofs.lemmas.List.Folds.{list_all-append}
use Rattle.std.specs.List.{list_all}

-- primitives with other charges, whichever they are
abbrev pub recharged_primitive : Primitive → ℕ → Primitive
recharged_primitive p q = record { centre = recharged p.centre q; norm = p.norm; coefficient = p.coefficient }

abbrev pub recharged_all : (ℕ → ℕ) → List Primitive → List Primitive
recharged_all q [] = []
recharged_all q (p ∷ ps) = recharged_primitive p (q 0) ∷ recharged_all (λ (i : ℕ). q (suc i)) ps

abbrev pub recharged_function : (ℕ → ℕ) → Contracted → Contracted
recharged_function q f = record { primitives = recharged_all q f.primitives; count = f.count }

abbrev recharged_pair : Pair → ℕ → ℕ → Pair
recharged_pair p x y = record { left = recharged_primitive p.left x; right = recharged_primitive p.right y; aux = p.aux }

-- ---- a pair

module _ (k : Kind) (p : Pair) (x y : ℕ) where
  finite-same : pair_finite k (recharged_pair p x y) ≡ pair_finite k p
  unfolding pair_finite inputs_finite
  finite-same = rw (used-recharged p.left.centre p.right.centre p.left.centre p.right.centre x y x y k)

  above_same : pair_above_zero k (recharged_pair p x y) ≡ pair_above_zero k p
  unfolding pair_above_zero
  above_same = exponents-recharged p.left.centre p.right.centre p.left.centre p.right.centre x y x y k

  geometry-same : pair_geometry k (recharged_pair p x y) ≡ pair_geometry k p
  unfolding pair_geometry
  geometry-same = geometry-recharged p.left.centre p.right.centre p.left.centre p.right.centre x y x y k

  value_same : (l : ℕ) (ts : List Term) → pair_value k l ts (recharged_pair p x y) ≡ pair_value k l ts p
  unfolding pair_value integral_of kinetic_start
  value_same l ts =
      rw (prefac-recharged p.left.centre p.right.centre p.left.centre p.right.centre x y x y k, factor-recharged p.left.centre p.right.centre p.left.centre p.right.centre x y x y k p.aux)

-- ---- all of them

length-same : (q : ℕ → ℕ) (ps : List Primitive) → length (recharged_all q ps) ≡ length ps
length-same q [] = refl
length-same q (p ∷ ps) = ap suc (length-same (λ (i : ℕ). q (suc i)) ps)

take_same : (q : ℕ → ℕ) (n : ℕ) (ps : List Primitive) → take n (recharged_all q ps) ≡ recharged_all q (take n ps)
take_same q zero ps = refl
take_same q (suc n) [] = refl
take_same q (suc n) (p ∷ ps) = rw (take_same (λ (i : ℕ). q (suc i)) n ps)

module _ (host : List Float) where
  module _ (P : Pair → Bool) (same : (p : Pair) (x y : ℕ) → P (recharged_pair p x y) ≡ P p) where
    row_same : (q : ℕ → ℕ) (y at : ℕ) (b : Primitive) (lefts : List Primitive) → list_all P (pairs_with host at (recharged_primitive b y) (recharged_all q lefts)) ≡ list_all P (pairs_with host at b lefts)
    unfolding pairs_with
    row_same q y at b [] = refl
    row_same q y at b (a ∷ lefts) = rw (same (record { left = a; right = b; aux = get_or host at 0·0 }) (q 0) y, row_same (λ (i : ℕ). q (suc i)) y (suc at) b lefts)

    rows_same : (q r : ℕ → ℕ) (lefts : List Primitive) (j : ℕ) (rights : List Primitive) → list_all P (all_pairs (rows_from host (recharged_all q lefts) j (recharged_all r rights))) ≡ list_all P (all_pairs (rows_from host lefts j rights))
    unfolding all_pairs rows_from
    rows_same q r lefts j [] = refl
    rows_same q r lefts j (b ∷ rights) =
        rw (length-same q lefts)
        (list_all-append P (pairs_with host (j * length lefts) (recharged_primitive b (r 0)) (recharged_all q lefts)) (all_pairs (rows_from host (recharged_all q lefts) (suc j) (recharged_all (λ (i : ℕ). r (suc i)) rights)))
        ∙ rw (row_same q (r 0) (j * length lefts) b lefts, rows_same q (λ (i : ℕ). r (suc i)) lefts (suc j) rights)
        (sym (list_all-append P (pairs_with host (j * length lefts) b lefts) (all_pairs (rows_from host lefts (suc j) rights)))))

  module _ (v : Pair → Float) (same : (p : Pair) (x y : ℕ) → v (recharged_pair p x y) ≡ v p) where
    share-same : (p : Pair) (x y : ℕ) → share_of v (recharged_pair p x y) ≡ share_of v p
    unfolding share_of
    share-same p x y = rw (same p x y)

    inner-same : (q : ℕ → ℕ) (y at : ℕ) (b : Primitive) (lefts : List Primitive) (sum : Float) → inner_from v (pairs_with host at (recharged_primitive b y) (recharged_all q lefts)) sum ≡ inner_from v (pairs_with host at b lefts) sum
    unfolding inner_from pairs_with
    inner-same q y at b [] sum = refl
    inner-same q y at b (a ∷ lefts) sum =
        let p : Pair = record { left = a; right = b; aux = get_or host at 0·0 } in
        inner-same (λ (i : ℕ). q (suc i)) y (suc at) b lefts (sum ⊕ share_of v (recharged_pair p (q 0) y)) ∙ ap (λ (x : Float). inner_from v (pairs_with host (suc at) b lefts) (sum ⊕ x)) (share-same p (q 0) y)

    inners-same : (q r : ℕ → ℕ) (lefts : List Primitive) (j : ℕ) (rights : List Primitive) → list_all (λ (row : Row). finite (inner_of v row)) (rows_from host (recharged_all q lefts) j (recharged_all r rights)) ≡ list_all (λ (row : Row). finite (inner_of v row)) (rows_from host lefts j rights)
    unfolding rows_from inner_of
    inners-same q r lefts j [] = refl
    inners-same q r lefts j (b ∷ rights) = rw (length-same q lefts, inner-same q (r 0) (j * length lefts) b lefts 0·0, inners-same q (λ (i : ℕ). r (suc i)) lefts (suc j) rights)

    outer_same : (q r : ℕ → ℕ) (lefts : List Primitive) (j : ℕ) (rights : List Primitive) (sum : Float) → outer_from v (rows_from host (recharged_all q lefts) j (recharged_all r rights)) sum ≡ outer_from v (rows_from host lefts j rights) sum
    unfolding outer_from rows_from inner_of
    outer_same q r lefts j [] sum = refl
    outer_same q r lefts j (b ∷ rights) sum = rw (length-same q lefts, inner-same q (r 0) (j * length lefts) b lefts 0·0) (outer_same q (λ (i : ℕ). r (suc i)) lefts (suc j) rights (sum ⊕ b.coefficient ⊗ inner_from v (pairs_with host (j * length lefts) b lefts) 0·0))

-- ---- every answer, for every roll

module _ (q r : ℕ → ℕ) (host : List Float) (lefts rights : List Primitive) where
  checked-recharged : (k : Kind) (l : ℕ) (ts : List Term) → checked_of k l ts (rows_from host (recharged_all q lefts) 0 (recharged_all r rights)) ≡ checked_of k l ts (rows_from host lefts 0 rights)
  unfolding checked_of element_of
  checked-recharged k l ts =
      let v = pair_value k l ts in
      let same : (p : Pair) (x y : ℕ) → v (recharged_pair p x y) ≡ v p = λ p x y. value_same k p x y l ts in
      rw (rows_same host (pair_finite k) (finite-same k) q r lefts 0 rights, rows_same host (pair_above_zero k) (above_same k) q r lefts 0 rights, rows_same host (pair_geometry k) (geometry-same k) q r lefts 0 rights, rows_same host (λ (p : Pair). finite (v p)) (λ p x y. ap finite (same p x y)) q r lefts 0 rights, inners-same host v same q r lefts 0 rights, outer_same host v same q r lefts 0 rights 0·0)

  roll-recharged : (x : Reading Roll) → of_roll x (rows_from host (recharged_all q lefts) 0 (recharged_all r rights)) ≡ of_roll x (rows_from host lefts 0 rights)
  unfolding of_roll
  roll-recharged (got x end) = rw (checked-recharged x.kind (total x.orders) x.terms)
  roll-recharged (refused n place) = refl

pub contracted-recharged : (q r : ℕ → ℕ) (s : List ℕ) (left right : Contracted) (host : List Float) → contracted_of s (recharged_function q left) (recharged_function r right) host ≡ contracted_of s left right host
unfolding contracted_of rows_of primitives_of
contracted-recharged q r s left right host =
    rw (take_same q left.count left.primitives, take_same r right.count right.primitives, roll-recharged q r host (take left.count left.primitives) (take right.count right.primitives) (roll_at s))
