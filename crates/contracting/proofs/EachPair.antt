-- A check of a pair that is a check of its two primitives and of its host number holds over all pairs exactly where it holds of every primitive and of
-- every host number: there is a primitive on each side, and a host number for each pair.
use Prim.Native.Nat.{ℕ, zero, suc, ◌+◌, ◌*◌, ◌≤◌, ◌<◌}
use mathlib.Core.Path.{◌≡◌, refl, sym, ◌∙◌}
use mathlib.Core.Bool.{Bool, true, false, ◌&&◌, false≢true}
use mathlib.Core.List.{List, [], ◌∷◌}
use native.Mathlib.Nat.{suc-mul, zero-mul, zero-add, add-zero, not-suc-le-zero}
use native.Mathlib.Omega.{arith}
use lib.Ieee.{Float}
use lib.ListN.{length, get_or, drop, drop_of_length-le}
use Rattle.laws.proofs.Cases.{and-true-both}
use Rattle.geometry.specs.Floats.{zero as 0·0}
use Rattle.contracting.specs.declared.Primitive.{Primitive}
use Rattle.contracting.specs.Pairs.{Pair, pairs_with, rows_from, all_pairs}
use Rattle.std.proofs.lemmas.List.Folds.{list_all-append}
use Rattle.std.specs.List.{list_all}

-- ---- lists

both_true : (a b : Bool) → a ≡ true → b ≡ true → (a && b) ≡ true
both_true a b e f = rw (e) f

pub same_truth : (a b : Bool) → (a ≡ true → b ≡ true) → (b ≡ true → a ≡ true) → a ≡ b
same_truth true true f g = refl
same_truth true false f g = absurd (false≢true (f refl))
same_truth false true f g = absurd (false≢true (g refl))
same_truth false false f g = refl

module _ (F : Float → Bool) where
  -- a host number, or 0.0 past the end
  host-each : F 0·0 ≡ true → (host : List Float) (at : ℕ) → list_all F host ≡ true → F (get_or host at 0·0) ≡ true
  host-each nought [] at e = nought
  host-each nought (x ∷ xs) zero e = (and-true-both (F x) (list_all F xs) e).0
  host-each nought (x ∷ xs) (suc at) e = host-each nought xs at (and-true-both (F x) (list_all F xs) e).1

  host-one : (host : List Float) (at : ℕ) → F (get_or host at 0·0) ≡ true → list_all F (drop (suc at) host) ≡ true → list_all F (drop at host) ≡ true
  host-one [] zero e f = refl
  host-one [] (suc at) e f = refl
  host-one (x ∷ xs) zero e f = both_true (F x) (list_all F xs) e f
  host-one (x ∷ xs) (suc at) e f = host-one xs at e f

-- ---- rows

module _ (P : Pair → Bool) (L : Primitive → Bool) (F : Float → Bool) (nought : F 0·0 ≡ true)
    (apart : (p : Pair) → P p ≡ true → (L p.left ≡ true) × (L p.right ≡ true) × (F p.aux ≡ true))
    (joined : (p : Pair) → L p.left ≡ true → L p.right ≡ true → F p.aux ≡ true → P p ≡ true)
    (host : List Float) where
  abbrev pair_at : ℕ → Primitive → Primitive → Pair
  pair_at at a b = record { left = a; right = b; aux = get_or host at 0·0 }

  row-joined : list_all F host ≡ true → (at : ℕ) (b : Primitive) (lefts : List Primitive) → L b ≡ true → list_all L lefts ≡ true → list_all P (pairs_with host at b lefts) ≡ true
  unfolding pairs_with
  row-joined hosts at b [] right left = refl
  row-joined hosts at b (a ∷ lefts) right left =
      let both = and-true-both (L a) (list_all L lefts) left in
      both_true (P (pair_at at a b)) (list_all P (pairs_with host (suc at) b lefts)) (joined (pair_at at a b) both.0 right (host-each F nought host at hosts)) (row-joined hosts (suc at) b lefts right both.1)

  rows-joined : list_all F host ≡ true → (lefts : List Primitive) (j : ℕ) (rights : List Primitive) → list_all L lefts ≡ true → list_all L rights ≡ true → list_all P (all_pairs (rows_from host lefts j rights)) ≡ true
  unfolding all_pairs rows_from
  rows-joined hosts lefts j [] left right = refl
  rows-joined hosts lefts j (b ∷ rights) left right =
      let both = and-true-both (L b) (list_all L rights) right in
      list_all-append P (pairs_with host (j * length lefts) b lefts) (all_pairs (rows_from host lefts (suc j) rights))
      ∙ both_true (list_all P (pairs_with host (j * length lefts) b lefts)) (list_all P (all_pairs (rows_from host lefts (suc j) rights))) (row-joined hosts (j * length lefts) b lefts both.0 left) (rows-joined hosts lefts (suc j) rights left both.1)

  -- a row: its left primitives, its right one, and its host numbers where those behind it are known
  row-lefts : (at : ℕ) (b : Primitive) (lefts : List Primitive) → list_all P (pairs_with host at b lefts) ≡ true → list_all L lefts ≡ true
  unfolding pairs_with
  row-lefts at b [] e = refl
  row-lefts at b (a ∷ lefts) e =
      let both = and-true-both (P (pair_at at a b)) (list_all P (pairs_with host (suc at) b lefts)) e in
      both_true (L a) (list_all L lefts) (apart (pair_at at a b) both.0).0 (row-lefts (suc at) b lefts both.1)

  row-right : (at : ℕ) (b : Primitive) (lefts : List Primitive) → 0 < length lefts → list_all P (pairs_with host at b lefts) ≡ true → L b ≡ true
  unfolding pairs_with
  row-right at b [] some e = absurd (not-suc-le-zero some)
  row-right at b (a ∷ lefts) some e = (apart (pair_at at a b) (and-true-both (P (pair_at at a b)) (list_all P (pairs_with host (suc at) b lefts)) e).0).1

  row-hosts : (at : ℕ) (b : Primitive) (lefts : List Primitive) → list_all P (pairs_with host at b lefts) ≡ true → list_all F (drop (at + length lefts) host) ≡ true → list_all F (drop at host) ≡ true
  unfolding pairs_with
  row-hosts at b [] e f = rw (add-zero at) at f
  row-hosts at b (a ∷ lefts) e f =
      let both = and-true-both (P (pair_at at a b)) (list_all P (pairs_with host (suc at) b lefts)) e in
      let next : at + suc (length lefts) ≡ suc at + length lefts = omega arith in
      host-one F host at (apart (pair_at at a b) both.0).2 (row-hosts (suc at) b lefts both.1 (rw (← next) f))

  rows-parts : (lefts : List Primitive) (j : ℕ) (b : Primitive) (rights : List Primitive) → list_all P (all_pairs (rows_from host lefts j (b ∷ rights))) ≡ true → (list_all P (pairs_with host (j * length lefts) b lefts) ≡ true) × (list_all P (all_pairs (rows_from host lefts (suc j) rights)) ≡ true)
  unfolding all_pairs rows_from
  rows-parts lefts j b rights e = and-true-both (list_all P (pairs_with host (j * length lefts) b lefts)) (list_all P (all_pairs (rows_from host lefts (suc j) rights))) (sym (list_all-append P (pairs_with host (j * length lefts) b lefts) (all_pairs (rows_from host lefts (suc j) rights))) ∙ e)

  rows-lefts : (lefts : List Primitive) (j : ℕ) (rights : List Primitive) → 0 < length rights → list_all P (all_pairs (rows_from host lefts j rights)) ≡ true → list_all L lefts ≡ true
  rows-lefts lefts j [] some e = absurd (not-suc-le-zero some)
  rows-lefts lefts j (b ∷ rights) some e = row-lefts (j * length lefts) b lefts (rows-parts lefts j b rights e).0

  rows-rights : (lefts : List Primitive) (j : ℕ) (rights : List Primitive) → 0 < length lefts → list_all P (all_pairs (rows_from host lefts j rights)) ≡ true → list_all L rights ≡ true
  rows-rights lefts j [] some e = refl
  rows-rights lefts j (b ∷ rights) some e =
      let both = rows-parts lefts j b rights e in
      both_true (L b) (list_all L rights) (row-right (j * length lefts) b lefts some both.0) (rows-rights lefts (suc j) rights some both.1)

  rows-hosts : (lefts : List Primitive) (j : ℕ) (rights : List Primitive) → length host ≤ (j + length rights) * length lefts → list_all P (all_pairs (rows_from host lefts j rights)) ≡ true → list_all F (drop (j * length lefts) host) ≡ true
  rows-hosts lefts j [] room e = rw (drop_of_length-le host {i = j * length lefts} (rw (add-zero j) at room))
  rows-hosts lefts j (b ∷ rights) room e =
      let both = rows-parts lefts j b rights e in
      let next : j + suc (length rights) ≡ suc j + length rights = omega arith in
      let behind : list_all F (drop (suc j * length lefts) host) ≡ true = rows-hosts lefts (suc j) rights (rw (next) at room) both.1 in
      row-hosts (j * length lefts) b lefts both.0 (rw (suc-mul j (length lefts)) at behind)

  module _ (lefts rights : List Primitive) where
    all-hosts : length host ≤ length rights * length lefts → list_all P (all_pairs (rows_from host lefts 0 rights)) ≡ true → list_all F host ≡ true
    all-hosts room e =
        let all : list_all F (drop (0 * length lefts) host) ≡ true = rows-hosts lefts 0 rights (rw (zero-add (length rights)) room) e in
        rw (zero-mul (length lefts)) at all

    pub over-all-pairs : 0 < length lefts → 0 < length rights → length host ≤ length rights * length lefts → list_all P (all_pairs (rows_from host lefts 0 rights)) ≡ list_all L lefts && (list_all L rights && list_all F host)
    over-all-pairs left right room =
        same_truth (list_all P (all_pairs (rows_from host lefts 0 rights))) (list_all L lefts && (list_all L rights && list_all F host))
        (λ e.
        both_true (list_all L lefts) (list_all L rights && list_all F host) (rows-lefts lefts 0 rights right e)
        (both_true (list_all L rights) (list_all F host) (rows-rights lefts 0 rights left e) (all-hosts room e)))
        (λ e.
        let outer = and-true-both (list_all L lefts) (list_all L rights && list_all F host) e in
        let inner = and-true-both (list_all L rights) (list_all F host) outer.1 in
        rows-joined inner.1 lefts 0 rights outer.0 inner.0)
