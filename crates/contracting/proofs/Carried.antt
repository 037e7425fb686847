-- What is not finite stays so in every product and sum after it: where the element is finite, so is every inner sum and every primitive value. So one look at an
-- element serves for all of 11, in which a pair with a geometry number or an entry of its table that is not finite has an infinity for its value.
use Prim.Native.Nat.{ℕ}
use mathlib.Core.Path.{◌≡◌, refl, sym, ◌∙◌}
use mathlib.Core.Bool.{Bool, true, false, cond, beq, false≢true}
use mathlib.Core.List.{List, [], ◌∷◌}
use lib.Dec.{eqb}
use lib.Ieee.{Float, nan, inf, fin, unlike, add, mul, of_bits}
use lib.Ieee.Scale.{finite}
use Rattle.laws.proofs.Cases.{tested, and-true-both}
use Rattle.kind.specs.declared.Kind.{Kind}
use Rattle.term.specs.Terms.{Term}
use Rattle.geometry.specs.Floats.{◌⊕◌, ◌⊗◌, zero as 0·0}
use Rattle.integrals.specs.Values.{Value, refused_unless, result_of}
use Rattle.contracting.specs.Pairs.{Pair, Row, all_pairs}
use Rattle.contracting.specs.Elements.{pair_geometry, pair_value, share_of, inner_from, inner_of, outer_from, element_of}
use Rattle.contracting.specs.inner.Summed.{kept_value}
use Rattle.std.proofs.lemmas.List.Folds.{list_all-append}
use Rattle.std.specs.List.{list_all}
use Rattle.std.specs.Prelude.{Err}
use Rattle.kind.specs.declared.refusals.Refusal.TheVariants.{ResultNotFinite}

-- ---- of one product or sum

not-either : {P : Type 0} (b : Bool) (x y : Float) → finite x ≡ false → finite y ≡ false → finite (cond b x y) ≡ true → P
not-either true x y e f g = absurd (false≢true (sym e ∙ g))
not-either false x y e f g = absurd (false≢true (sym f ∙ g))

pub sum-finite : (x y : Float) → finite (x ⊕ y) ≡ true → (finite x ≡ true) × (finite y ≡ true)
unfolding add
sum-finite nan y e = absurd (false≢true e)
sum-finite (inf s) nan e = absurd (false≢true e)
sum-finite (inf s) (inf t) e = not-either (beq s t) (inf s) nan refl refl e
sum-finite (inf s) (fin t n d) e = absurd (false≢true e)
sum-finite (fin s m c) nan e = absurd (false≢true e)
sum-finite (fin s m c) (inf t) e = absurd (false≢true e)
sum-finite (fin s m c) (fin t n d) e = (refl, refl)

pub product-finite : (x y : Float) → finite (x ⊗ y) ≡ true → (finite x ≡ true) × (finite y ≡ true)
unfolding mul
product-finite nan y e = absurd (false≢true e)
product-finite (inf s) nan e = absurd (false≢true e)
product-finite (inf s) (inf t) e = absurd (false≢true e)
product-finite (inf s) (fin t n d) e = not-either (eqb n 0) nan (inf (unlike s t)) refl refl e
product-finite (fin s m c) nan e = absurd (false≢true e)
product-finite (fin s m c) (inf t) e = not-either (eqb m 0) nan (inf (unlike s t)) refl refl e
product-finite (fin s m c) (fin t n d) e = (refl, refl)

-- ---- of the sums

module _ (v : Pair → Float) where
  share-finite : (p : Pair) → finite (share_of v p) ≡ true → finite (v p) ≡ true
  unfolding share_of
  share-finite p e = (product-finite (p.left.norm ⊗ p.right.norm) (v p) (product-finite p.left.coefficient (p.left.norm ⊗ p.right.norm ⊗ v p) e).1).1

  pub inner-finite : (ps : List Pair) (sum : Float) → finite (inner_from v ps sum) ≡ true → (finite sum ≡ true) × (list_all (λ (p : Pair). finite (v p)) ps ≡ true)
  unfolding inner_from
  inner-finite [] sum e = (e, refl)
  inner-finite (p ∷ ps) sum e =
      let rest = inner-finite ps (sum ⊕ share_of v p) e in
      let both = sum-finite sum (share_of v p) rest.0 in
      (both.0, rw (share-finite p both.1) rest.1)

  pub outer-finite : (rows : List Row) (sum : Float) → finite (outer_from v rows sum) ≡ true → (finite sum ≡ true) × (list_all (λ (p : Pair). finite (v p)) (all_pairs rows) ≡ true) × (list_all (λ (row : Row). finite (inner_of v row)) rows ≡ true)
  unfolding outer_from inner_of all_pairs
  outer-finite [] sum e = (e, refl, refl)
  outer-finite (row ∷ rows) sum e =
      let rest = outer-finite rows (sum ⊕ row.right.coefficient ⊗ inner_of v row) e in
      let both = sum-finite sum (row.right.coefficient ⊗ inner_of v row) rest.0 in
      let inner : finite (inner_of v row) ≡ true = (product-finite row.right.coefficient (inner_of v row) both.1).1 in
      (both.0, list_all-append (λ (p : Pair). finite (v p)) row.pairs (all_pairs rows) ∙ rw (inner-finite row.pairs 0·0 inner).1 rest.1, rw (inner) rest.2)

-- ---- the value of a pair whose geometry is finite

module _ (k : Kind) (l : ℕ) (ts : List Term) where
  kept_fine : (p : Pair) → finite (kept_value k l ts p) ≡ true → pair_geometry k p ≡ true
  unfolding kept_value of_bits
  kept_fine p e = tested (pair_geometry k p) (λ t. t) (λ f. absurd (false≢true (rw f at e)))

  all-kept : (ps : List Pair) → list_all (λ (p : Pair). finite (kept_value k l ts p)) ps ≡ true → list_all (pair_geometry k) ps ≡ true
  all-kept [] e = refl
  all-kept (p ∷ ps) e =
      let both = and-true-both (finite (kept_value k l ts p)) (list_all (λ (p : Pair). finite (kept_value k l ts p)) ps) e in
      rw (kept_fine p both.0) (all-kept ps both.1)

  same-inner : (ps : List Pair) (sum : Float) → list_all (pair_geometry k) ps ≡ true → inner_from (kept_value k l ts) ps sum ≡ inner_from (pair_value k l ts) ps sum
  unfolding inner_from share_of kept_value
  same-inner [] sum e = refl
  same-inner (p ∷ ps) sum e =
      let both = and-true-both (pair_geometry k p) (list_all (pair_geometry k) ps) e in
      rw both.0 (same-inner ps (sum ⊕ share_of (pair_value k l ts) p) both.1)

  same-outer : (rows : List Row) (sum : Float) → list_all (pair_geometry k) (all_pairs rows) ≡ true → outer_from (kept_value k l ts) rows sum ≡ outer_from (pair_value k l ts) rows sum
  unfolding outer_from inner_of all_pairs
  same-outer [] sum e = refl
  same-outer (row ∷ rows) sum e =
      let both = and-true-both (list_all (pair_geometry k) row.pairs) (list_all (pair_geometry k) (all_pairs rows)) (sym (list_all-append (pair_geometry k) row.pairs (all_pairs rows)) ∙ e) in
      rw (same-inner row.pairs 0·0 both.0) (same-outer rows (sum ⊕ row.right.coefficient ⊗ inner_from (pair_value k l ts) row.pairs 0·0) both.1)

  all-eleven : (p q : Bool) (x : Float) → finite x ≡ false → Err ResultNotFinite ≡ refused_unless p ResultNotFinite (refused_unless q ResultNotFinite (result_of x))
  unfolding refused_unless result_of
  all-eleven true true x e = rw e
  all-eleven true false x e = refl
  all-eleven false q x e = refl

  module _ (rows : List Row) where
    abbrev values : Bool
    values = list_all (λ (p : Pair). finite (pair_value k l ts p)) (all_pairs rows)

    abbrev inners : Bool
    inners = list_all (λ (row : Row). finite (inner_of (pair_value k l ts) row)) rows

    abbrev eleven : Value
    eleven = refused_unless (list_all (pair_geometry k) (all_pairs rows)) ResultNotFinite (refused_unless values ResultNotFinite (refused_unless inners ResultNotFinite (result_of (element_of (pair_value k l ts) rows))))

    element-finite : finite (element_of (kept_value k l ts) rows) ≡ true → result_of (element_of (kept_value k l ts) rows) ≡ eleven
    unfolding element_of refused_unless
    element-finite e =
        let geometry = all-kept (all_pairs rows) (outer-finite (kept_value k l ts) rows 0·0 e).1 in
        let same = same-outer rows 0·0 geometry in
        let all = outer-finite (pair_value k l ts) rows 0·0 (rw (same) at e) in
        rw (same, geometry, all.1, all.2)

    element-not : finite (element_of (kept_value k l ts) rows) ≡ false → result_of (element_of (kept_value k l ts) rows) ≡ eleven
    unfolding element_of refused_unless result_of
    element-not e =
        tested (list_all (pair_geometry k) (all_pairs rows))
        (λ geometry. let same = same-outer rows 0·0 geometry in rw (geometry, e) (all-eleven values inners (element_of (pair_value k l ts) rows) (rw (same) at e)))
        (λ not. rw (not, e))

    -- 11 of the geometry, of the values, of the inner sums and of the element, by one look at the element
    pub one-look : result_of (element_of (kept_value k l ts) rows) ≡ eleven
    one-look = tested (finite (element_of (kept_value k l ts) rows)) element-finite element-not
