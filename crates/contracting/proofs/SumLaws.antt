-- The functions of src/sums.rt: the value of a pair, and the inner and the outer sum, which go on from where they stand.
use Prim.Native.Nat.{ℕ, suc, ◌+◌, ◌*◌, ◌<◌, ◌≤◌}
use mathlib.Core.Path.{◌≡◌, sym, ◌∙◌}
use mathlib.Core.Bool.{Bool, true, false}
use mathlib.Core.List.{List, []}
use native.Mathlib.Nat.{suc-mul}
use native.Mathlib.Numerals.{add-one}
use native.Mathlib.Omega.{arith}
use lib.Ieee.{Float, nan}
use lib.ListN.{length, get_or, drop, drop_of_length-le}
use lib.Seq.{drop-cons}
use Rattle.kind.specs.declared.Kind.{Kind}
use Rattle.kind.specs.Limits.{table_places}
use Rattle.term.specs.Terms.{Term}
use Rattle.geometry.specs.Floats.{◌⊕◌, ◌⊗◌, zero as 0·0, in_places}
use Rattle.geometry.specs.Tables.{prefac}
use Rattle.geometry.specs.Checks.{finite_with}
use Rattle.geometry.proofs.Checks.{finite-table}
use Rattle.integrals.specs.Sums.{kinetic_start, total_of, factor_of, integral_of}
use Rattle.contracting.specs.declared.Primitive.{Primitive}
use Rattle.contracting.specs.Pairs.{Pair, pairs_with, rows_from}
use Rattle.contracting.specs.Elements.{pair_geometry, pair_value, share_of, inner_from, inner_of, outer_from}
use Rattle.contracting.specs.inner.Summed.{infinity, kept_value}
use Rattle.integrals.proofs.SumsLaws.{read-inside}

abbrev pair_of : Primitive → Primitive → Float → Pair
pair_of a b aux = record { left = a; right = b; aux = aux }

module _ (k : Kind) (l : ℕ) (ts : List Term) (a b : Primitive) (aux : Float) (table : List Float) (t : Bool) (is : table ≡ in_places table_places (prefac k a.centre b.centre a.centre b.centre)) (e : t ≡ finite_with k a.centre b.centre a.centre b.centre table) where
  pub value-kept : (f x : Float) → t ≡ true → f ≡ factor_of k a.centre b.centre a.centre b.centre aux → x ≡ total_of k l (kinetic_start a.centre b.centre) table f [] ts → x ≡ kept_value k l ts (pair_of a b aux)
  unfolding kept_value pair_geometry pair_value integral_of
  value-kept f x p h g =
      let fine = finite-table k a.centre b.centre a.centre b.centre table t is e in
      rw (← fine, p, ← is, ← h) g

  pub value_not : t ≡ false → infinity ≡ kept_value k l ts (pair_of a b aux)
  unfolding kept_value pair_geometry
  value_not p =
      let fine = finite-table k a.centre b.centre a.centre b.centre table t is e in
      rw (← fine, p)

pub shared : (k : Kind) (l : ℕ) (ts : List Term) (a b : Primitive) (aux v : Float) → v ≡ kept_value k l ts (pair_of a b aux) → a.coefficient ⊗ (a.norm ⊗ b.norm ⊗ v) ≡ share_of (kept_value k l ts) (pair_of a b aux)
unfolding share_of
shared k l ts a b aux v e = rw e

-- ---- the sums

module _ (k : Kind) (l : ℕ) (ts : List Term) (host : List Float) (xs : List Primitive) (i : ℕ) (sum whole : Float) where
  pub inner-more : (from : ℕ) (b d : Primitive) (aux x : Float) → i < length xs → from + i < length host → aux ≡ get_or host (from + i) nan → inner_from (kept_value k l ts) (pairs_with host (from + i) b (drop i xs)) sum ≡ whole → x ≡ share_of (kept_value k l ts) (pair_of (get_or xs i d) b aux) → inner_from (kept_value k l ts) (pairs_with host (from + (i + 1)) b (drop (i + 1) xs)) (sum ⊕ x) ≡ whole
  unfolding inner_from pairs_with
  inner-more from b d aux x h inside e w f =
      let next : from + (i + 1) ≡ suc (from + i) = omega arith in
      let number : aux ≡ get_or host (from + i) 0·0 = e ∙ read-inside host (from + i) inside in
      rw (f, number, next, add-one i) (rw (drop-cons xs i d h) at w)

  pub inner-done : (from : ℕ) (b : Primitive) → length xs ≤ i → inner_from (kept_value k l ts) (pairs_with host (from + i) b (drop i xs)) sum ≡ whole → sum ≡ whole
  unfolding inner_from pairs_with
  inner-done from b h w = rw (drop_of_length-le xs {i = i} h) at w

  pub outer-more : (lefts : List Primitive) (from : ℕ) (d : Primitive) (x : Float) → i < length xs → from ≡ i * length lefts → outer_from (kept_value k l ts) (rows_from host lefts i (drop i xs)) sum ≡ whole → x ≡ inner_from (kept_value k l ts) (pairs_with host from (get_or xs i d) lefts) 0·0 → outer_from (kept_value k l ts) (rows_from host lefts (i + 1) (drop (i + 1) xs)) (sum ⊕ (get_or xs i d).coefficient ⊗ x) ≡ whole
  unfolding outer_from rows_from inner_of
  outer-more lefts from d x h e w f = rw (f, e, add-one i) (rw (drop-cons xs i d h) at w)

  pub outer-done : (lefts : List Primitive) → length xs ≤ i → outer_from (kept_value k l ts) (rows_from host lefts i (drop i xs)) sum ≡ whole → sum ≡ whole
  unfolding outer_from rows_from
  outer-done lefts h w = rw (drop_of_length-le xs {i = i} h) at w

pub next_row : (j m from : ℕ) → from ≡ j * m → from + m ≡ (j + 1) * m
next_row j m from e = rw (e, add-one j) (sym (suc-mul j m))
