-- 02, Q-10, in other words: a list of one beside the single call, a list beside its beginning, and what is never looked at.
use Prim.Native.Nat.{ℕ, ◌+◌, ◌*◌, ◌≤◌}
use mathlib.Core.Path.{◌≡◌, refl, sym, ap, ap₂, ◌∙◌}
use mathlib.Core.Bool.{Bool, true, false, ◌&&◌, and-true, true≢false}
use mathlib.Core.List.{List, [], ◌∷◌, ◌++◌, map}
use native.Mathlib.Nat.{suc-mul, zero-mul, one-mul}
use native.Mathlib.Omega.{arith}
use borrow.Author.Tests.{eqb-true}
use lib.Dec.{eqb}
use lib.Ieee.{Float, nan, inf, fin, add, of_bits}
use lib.Ieee.Scale.{finite}
use lib.ListN.{length, take, drop, length-drop}
use lib.Seq.{take_all, take-append-le, drop-append-le}
use Rattle.laws.specs.Total.{total}
use Rattle.laws.proofs.Cases.{clash}
use Rattle.kind.specs.declared.Kind.TheVariants.{Nuclear}
use Rattle.term.specs.Terms.{Term}
use Rattle.geometry.specs.declared.Centre.{Centre}
use Rattle.geometry.specs.Floats.{◌⊕◌, zero as 0·0, all_finite}
use Rattle.geometry.specs.Charges.{charge_kept, charged}
use Rattle.geometry.specs.Geometry.{geometry_numbers}
use Rattle.geometry.specs.Tables.{entries_of, prefac}
use Rattle.geometry.specs.Checks.{whole, used, used_finite, exponents, exponents_above_zero, finite_with, geometry_finite}
use Rattle.geometry.proofs.Charges.{recharged}
use Rattle.roll.specs.Reading.{Reading, got, refused, Roll, roll_at}
use Rattle.std.specs.Prelude.{Ok, Err}
use Rattle.std.specs.List.{list_all}
use Rattle.kind.specs.declared.refusals.Refusal.{Refusal}
use Rattle.kind.specs.declared.refusals.Refusal.TheVariants as refusal
use Rattle.kind.specs.declared.refusals.Refusal.TheVariants.{InputNotFinite, Exponent, BoysCount, ResultNotFinite}
use Rattle.kind.specs.declared.refusals.Fault.{Fault}
use Rattle.kind.specs.Refusals.{unplaced, without_place}
use Rattle.kind.proofs.Faults.{err-is}
use Rattle.std.proofs.lemmas.List.Folds.{list_all-map}
use Rattle.integrals.specs.Sums.{kinetic_start, factor_of, integral_of}
use Rattle.integrals.specs.Values as single
use Rattle.integrals.specs.Values.{Value, refused_unless, result_of, value_of}
use Rattle.integrals.specs.Evaluation.{evaluate_of, of_roll as evaluated}
use Rattle.nuclei.specs.declared.Nuclei.{Nuclei}
use Rattle.nuclei.specs.Nuclei.{nuclei_of, list_kept, inputs_finite, boys_counted, charged_value, sum_from, list_of, of_roll, nuclear_of}

-- ---- a value has passed every check

passed : (t : Bool) (r : Refusal) (v : Value) (x : Float) → refused_unless t r v ≡ Ok x → (t ≡ true) × (v ≡ Ok x)
unfolding refused_unless
passed true r v x e = (refl, e)
passed false r v x e = absurd (clash (cc))

result-is : (y x : Float) → result_of y ≡ Ok x → x ≡ y
unfolding result_of
result-is y x e = let is = (passed (finite y) ResultNotFinite (Ok y) x e).1 in cc

-- of an answer without a place
value-in : (v : Value) (x : Float) → without_place v ≡ Ok x → v ≡ Ok x
value-in (Ok y) x e = cc
value-in (Err r) x e = absurd (clash (cc))

refusal-in : (v : Value) (why : Fault) → without_place v ≡ Err why → (r : Refusal) × (v ≡ Err r) × (unplaced r ≡ why)
refusal-in (Ok y) why e = absurd (clash (cc))
refusal-in (Err r) why e = (r, refl, err-is (unplaced r) why e)

open-all : (p q u w z : Bool) (v : Value) → p ≡ true → q ≡ true → u ≡ true → w ≡ true → z ≡ true → refused_unless p refusal.Nuclei (refused_unless q InputNotFinite (refused_unless u Exponent (refused_unless w BoysCount (refused_unless z ResultNotFinite v)))) ≡ v
unfolding refused_unless
open-all p q u w z v a b c d e = rw (a, b, c, d, e)

-- of two answers behind the same checks, a refusal of the one is the other's
both-refused : (p q u w z : Bool) (v v' : Value) (r : Refusal) → refused_unless p refusal.Nuclei (refused_unless q InputNotFinite (refused_unless u Exponent (refused_unless w BoysCount (refused_unless z ResultNotFinite v)))) ≡ Err r → (w ≡ true → v ≡ Err r → v' ≡ Err r) →
    refused_unless p refusal.Nuclei (refused_unless q InputNotFinite (refused_unless u Exponent (refused_unless w BoysCount (refused_unless z ResultNotFinite v')))) ≡ Err r
unfolding refused_unless
both-refused true true true true true v v' r e f = f refl e
both-refused true true true true false v v' r e f = e
both-refused true true true false z v v' r e f = e
both-refused true true false w z v v' r e f = e
both-refused true false u w z v v' r e f = e
both-refused false q u w z v v' r e f = e

-- a sum from 0.0 does not mend what is not finite
not_finite : (x : Float) → finite x ≡ false → finite (0·0 ⊕ x) ≡ false
unfolding add of_bits
not_finite nan e = refl
not_finite (inf s) e = refl
not_finite (fin s m d) e = absurd (true≢false e)

result-refused : (x : Float) (r : Refusal) → result_of x ≡ Err r → result_of (0·0 ⊕ x) ≡ Err r
unfolding result_of refused_unless
result-refused x r e = by (finite x) refl
  where
    by : (t : Bool) → finite x ≡ t → result_of (0·0 ⊕ x) ≡ Err r
    by true is = let same : Ok x ≡ Err r = rw is at e in absurd (clash (cc))
    by false is = rw (not_finite x is) (rw is at e)

-- D is not used by a nuclear integral
no-d : (l : ℕ) (a b c d : Centre) (aux : Float) (boys : List Float) (ts : List Term) → integral_of Nuclear l a b c d aux boys ts ≡ integral_of Nuclear l a b c c aux boys ts
unfolding integral_of factor_of prefac entries_of
no-d l a b c d aux boys ts = refl

-- what the single call gives, and of how many Boys numbers
single-is : (l : ℕ) (a b c d : Centre) (aux : Float) (boys : List Float) (ts : List Term) (v : Float) → value_of Nuclear l a b c d aux boys ts ≡ Ok v → (v ≡ charged_value l a b c aux boys ts) × (length boys ≡ l + 1)
unfolding value_of single.boys_counted
single-is l a b c d aux boys ts v e =
    let one = (passed _ refusal.Nuclei _ v e).1 in
    let two = (passed _ InputNotFinite _ v one).1 in
    let three = (passed _ Exponent _ v two).1 in
    let four = passed (eqb (length boys) (l + 1)) BoysCount _ v three in
    let five = (passed _ ResultNotFinite _ v four.1).1 in
    (result-is _ v five ∙ ap (charged Nuclear c) (no-d l a b c d aux boys ts), eqb-true (length boys) (l + 1) four.0)

-- what a list gives
list-is : (l : ℕ) (a b : Centre) (n : Nuclei) (aux : Float) (boys : List Float) (ts : List Term) (x : Float) → list_of l a b n aux boys ts ≡ Ok x → (x ≡ sum_from l a b aux (nuclei_of n) boys ts 0·0) × (length boys ≡ n.count * (l + 1))
unfolding list_of boys_counted
list-is l a b n aux boys ts x e =
    let one = (passed _ refusal.Nuclei _ x e).1 in
    let two = (passed _ InputNotFinite _ x one).1 in
    let three = (passed _ Exponent _ x two).1 in
    let four = passed (eqb (length boys) (n.count * (l + 1))) BoysCount _ x three in
    let five = (passed _ ResultNotFinite _ x four.1).1 in
    (result-is _ x five, eqb-true (length boys) (n.count * (l + 1)) four.0)

-- ---- a list is its beginning's sum plus the last nucleus' product

sum-last : (l : ℕ) (a b : Centre) (aux : Float) (cs : List Centre) (c : Centre) (xs ys : List Float) (ts : List Term) (sum : Float) → length xs ≡ length cs * (l + 1) →
    sum_from l a b aux (cs ++ (c ∷ [])) (xs ++ ys) ts sum ≡ sum_from l a b aux cs xs ts sum ⊕ charged_value l a b c aux (take (l + 1) ys) ts
unfolding sum_from
sum-last l a b aux [] c [] ys ts sum e = refl
sum-last l a b aux [] c (x ∷ xs) ys ts sum e = absurd (omega (arith, e, zero-mul (l + 1)))
sum-last l a b aux (d ∷ cs) c xs ys ts sum e =
    let all : length xs ≡ length cs * (l + 1) + (l + 1) = e ∙ suc-mul (length cs) (l + 1) in
    let enough : l + 1 ≤ length xs = omega (arith, all) in
    let rest : length (drop (l + 1) xs) ≡ length cs * (l + 1) = omega (arith, all, length-drop (l + 1) xs) in
    ap₂ (λ (zs ws : List Float). sum_from l a b aux (cs ++ (c ∷ [])) zs ts (sum ⊕ charged_value l a b d aux ws ts)) (drop-append-le (l + 1) xs ys enough) (take-append-le (l + 1) xs ys enough)
    ∙ sum-last l a b aux cs c (drop (l + 1) xs) ys ts (sum ⊕ charged_value l a b d aux (take (l + 1) xs) ts) rest

module _ (s : List ℕ) (r : Roll) (end : ℕ) (reads : roll_at s ≡ got r end) (is : r.kind ≡ Nuclear) (a b c d : Centre) (aux : Float) where
  of-list : (n : Nuclei) (boys : List Float) → nuclear_of s a b n aux boys ≡ without_place (list_of (total r.orders) a b n aux boys r.terms)
  unfolding nuclear_of of_roll refused_unless
  of-list n boys = rw (reads, is)

  of-single : (boys : List Float) → evaluate_of s a b c d aux boys ≡ without_place (value_of Nuclear (total r.orders) a b c d aux boys r.terms)
  unfolding evaluate_of evaluated
  of-single boys = rw (reads, is)

  -- a host may check a total step by step: the list, the list without its last nucleus, and the last one by itself
  pub step-by-step : (n m : Nuclei) (xs ys : List Float) (whole part last : Float) → nuclei_of n ≡ nuclei_of m ++ (c ∷ []) → length (nuclei_of m) ≡ m.count →
      nuclear_of s a b n aux (xs ++ ys) ≡ Ok whole → nuclear_of s a b m aux xs ≡ Ok part → evaluate_of s a b c d aux ys ≡ Ok last → whole ≡ part ⊕ last
  step-by-step n m xs ys whole part last more long e f g =
      let l = total r.orders in
      let all = list-is l a b n aux (xs ++ ys) r.terms whole (value-in _ whole (sym (of-list n (xs ++ ys)) ∙ e)) in
      let begun = list-is l a b m aux xs r.terms part (value-in _ part (sym (of-list m xs) ∙ f)) in
      let one = single-is l a b c d aux ys r.terms last (value-in _ last (sym (of-single ys) ∙ g)) in
      let enough : length xs ≡ length (nuclei_of m) * (l + 1) = begun.1 ∙ ap (λ (k : ℕ). k * (l + 1)) (sym long) in
      let its_own : take (l + 1) ys ≡ ys = take_all (l + 1) ys (omega (arith, one.1)) in
      all.0 ∙ ap (λ (cs : List Centre). sum_from l a b aux cs (xs ++ ys) r.terms 0·0) more
      ∙ sum-last l a b aux (nuclei_of m) c xs ys r.terms 0·0 enough
      ∙ ap₂ ◌⊕◌ (sym begun.0) (ap (λ (zs : List Float). charged_value l a b c aux zs r.terms) its_own ∙ sym one.0)

  -- ---- a list of one is 0.0 plus the single call's value

  module _ (n : Nuclei) (boys : List Float) (count : n.count ≡ 1) (one : nuclei_of n ≡ c ∷ []) where
    kept-one : list_kept n ≡ charge_kept Nuclear c
    unfolding list_kept
    kept-one = rw (one, count) (and-true (charge_kept Nuclear c))

    inputs-one : inputs_finite a b (nuclei_of n) aux boys ≡ single.inputs_finite Nuclear a b c d aux boys
    unfolding inputs_finite single.inputs_finite used_finite used
    inputs-one = rw (one, and-true (all_finite (used Nuclear a b c d)))

    above-one : exponents_above_zero Nuclear a b a b ≡ exponents_above_zero Nuclear a b c d
    unfolding exponents_above_zero exponents
    above-one = refl

    counted-one : (l : ℕ) → boys_counted l n.count (length boys) ≡ single.boys_counted Nuclear l (length boys)
    unfolding boys_counted single.boys_counted
    counted-one l = rw (count, one-mul (l + 1))

    geometry-one : list_all (λ c. geometry_finite Nuclear a b c c) (nuclei_of n) ≡ geometry_finite Nuclear a b c d
    unfolding geometry_finite finite_with geometry_numbers prefac entries_of
    geometry-one = rw (one, and-true (geometry_finite Nuclear a b c d))

    -- the same checks, then the sum from 0.0
    one_by_one : (l : ℕ) (ts : List Term) → list_of l a b n aux boys ts ≡
        refused_unless (charge_kept Nuclear c) refusal.Nuclei
        (refused_unless (single.inputs_finite Nuclear a b c d aux boys) InputNotFinite
        (refused_unless (exponents_above_zero Nuclear a b c d) Exponent
        (refused_unless (single.boys_counted Nuclear l (length boys)) BoysCount
        (refused_unless (geometry_finite Nuclear a b c d) ResultNotFinite
        (result_of (0·0 ⊕ charged_value l a b c aux (take (l + 1) boys) ts))))))
    unfolding list_of sum_from
    one_by_one l ts = rw (kept-one, inputs-one, above-one, counted-one l, geometry-one, one)

    pub list-of-one : (v : Float) → evaluate_of s a b c d aux boys ≡ Ok v → nuclear_of s a b n aux boys ≡ without_place (result_of (0·0 ⊕ v))
    unfolding value_of
    list-of-one v e =
        let l = total r.orders in
        let single-value = value-in _ v (sym (of-single boys) ∙ e) in
        let value = single-is l a b c d aux boys r.terms v single-value in
        let its_own : take (l + 1) boys ≡ boys = take_all (l + 1) boys (omega (arith, value.1)) in
        let first = passed (charge_kept Nuclear c) refusal.Nuclei _ v single-value in
        let second = passed (single.inputs_finite Nuclear a b c d aux boys) InputNotFinite _ v first.1 in
        let third = passed (exponents_above_zero Nuclear a b c d) Exponent _ v second.1 in
        let fourth = passed (single.boys_counted Nuclear l (length boys)) BoysCount _ v third.1 in
        let fifth = passed (geometry_finite Nuclear a b c d) ResultNotFinite _ v fourth.1 in
        of-list n boys ∙ ap without_place (one_by_one l r.terms ∙ open-all _ _ _ _ _ _ first.0 second.0 third.0 fourth.0 fifth.0
        ∙ ap (λ (x : Float). result_of (0·0 ⊕ x)) (ap (λ (zs : List Float). charged_value l a b c aux zs r.terms) its_own ∙ sym value.0))

    -- and every refusal of the single call is the list's
    pub list-of-one-refused : (why : Fault) → evaluate_of s a b c d aux boys ≡ Err why → nuclear_of s a b n aux boys ≡ Err why
    unfolding value_of single.boys_counted
    list-of-one-refused why e =
        let l = total r.orders in
        let x = charged Nuclear c (integral_of Nuclear l a b c d aux boys r.terms) in
        let told = refusal-in _ why (sym (of-single boys) ∙ e) in
        of-list n boys ∙ ap without_place (one_by_one l r.terms ∙
        both-refused (charge_kept Nuclear c) (single.inputs_finite Nuclear a b c d aux boys) (exponents_above_zero Nuclear a b c d) (single.boys_counted Nuclear l (length boys)) (geometry_finite Nuclear a b c d)
        (result_of x) (result_of (0·0 ⊕ charged_value l a b c aux (take (l + 1) boys) r.terms)) told.0 told.1
        (λ counted f.
        let its_own : take (l + 1) boys ≡ boys = take_all (l + 1) boys (omega (arith, eqb-true (length boys) (l + 1) counted)) in
        let same : charged_value l a b c aux (take (l + 1) boys) r.terms ≡ x = ap (λ (zs : List Float). charged_value l a b c aux zs r.terms) its_own ∙ ap (charged Nuclear c) (sym (no-d l a b c d aux boys r.terms)) in
        ap (λ (y : Float). result_of (0·0 ⊕ y)) same ∙ result-refused x told.0 f)) ∙ ap (λ (f : Fault). Err f) told.2

-- ---- what is never looked at

all-alike : (p q : Centre → Bool) → ((c : Centre) → p c ≡ q c) → (cs : List Centre) → list_all p cs ≡ list_all q cs
all-alike p q same [] = refl
all-alike p q same (c ∷ cs) = ap₂ ◌&&◌ (same c) (all-alike p q same cs)

all-mapped : (p : Centre → Bool) (g : Centre → Centre) → ((c : Centre) → p (g c) ≡ p c) → (cs : List Centre) → list_all p (map g cs) ≡ list_all p cs
all-mapped p g same cs = list_all-map p g cs ∙ all-alike (λ (c : Centre). p (g c)) p same cs

-- beyond the count
kept_same : (n m : Nuclei) → n.count ≡ m.count → nuclei_of n ≡ nuclei_of m → list_kept n ≡ list_kept m
unfolding list_kept
kept_same n m count same = rw (same, count)

pub beyond : (s : List ℕ) (a b : Centre) (n m : Nuclei) (aux : Float) (boys : List Float) → n.count ≡ m.count → nuclei_of n ≡ nuclei_of m → nuclear_of s a b n aux boys ≡ nuclear_of s a b m aux boys
unfolding nuclear_of of_roll list_of
beyond s a b n m aux boys count same = by (roll_at s)
  where
    by : (x : Reading Roll) → of_roll x a b n aux boys ≡ of_roll x a b m aux boys
    by (got r end) = rw (kept_same n m count same, same, count)
    by (refused number place) = refl

-- the charges of A and B
module _ (a b : Centre) (p q : ℕ) where
  used-same : (c : Centre) → used_finite Nuclear (recharged a p) (recharged b q) c c ≡ used_finite Nuclear a b c c
  unfolding used_finite used whole
  used-same c = refl

  geometry-same : (c : Centre) → geometry_finite Nuclear (recharged a p) (recharged b q) c c ≡ geometry_finite Nuclear a b c c
  unfolding geometry_finite finite_with geometry_numbers prefac entries_of
  geometry-same c = refl

  above_same : exponents_above_zero Nuclear (recharged a p) (recharged b q) (recharged a p) (recharged b q) ≡ exponents_above_zero Nuclear a b a b
  unfolding exponents_above_zero exponents
  above_same = refl

  value_same : (l : ℕ) (c : Centre) (aux : Float) (boys : List Float) (ts : List Term) → charged_value l (recharged a p) (recharged b q) c aux boys ts ≡ charged_value l a b c aux boys ts
  unfolding integral_of factor_of kinetic_start prefac entries_of
  value_same l c aux boys ts = refl

  sum_same : (l : ℕ) (aux : Float) (cs : List Centre) (boys : List Float) (ts : List Term) (sum : Float) → sum_from l (recharged a p) (recharged b q) aux cs boys ts sum ≡ sum_from l a b aux cs boys ts sum
  unfolding sum_from
  sum_same l aux [] boys ts sum = refl
  sum_same l aux (c ∷ cs) boys ts sum = rw (value_same l c aux (take (l + 1) boys) ts) (sum_same l aux cs (drop (l + 1) boys) ts (sum ⊕ charged_value l a b c aux (take (l + 1) boys) ts))

  list_same : (l : ℕ) (n : Nuclei) (aux : Float) (boys : List Float) (ts : List Term) → list_of l (recharged a p) (recharged b q) n aux boys ts ≡ list_of l a b n aux boys ts
  unfolding list_of inputs_finite
  list_same l n aux boys ts = rw (all-alike _ _ used-same (nuclei_of n), all-alike _ _ geometry-same (nuclei_of n), above_same, sum_same l aux (nuclei_of n) boys ts 0·0)

  pub pair-recharged : (s : List ℕ) (n : Nuclei) (aux : Float) (boys : List Float) → nuclear_of s (recharged a p) (recharged b q) n aux boys ≡ nuclear_of s a b n aux boys
  unfolding nuclear_of of_roll
  pair-recharged s n aux boys = by (roll_at s)
    where
      by : (x : Reading Roll) → of_roll x (recharged a p) (recharged b q) n aux boys ≡ of_roll x a b n aux boys
      by (got r end) = rw (list_same (total r.orders) n aux boys r.terms)
      by (refused number place) = refl

-- the exponents of the nuclei
abbrev pub reexponent : (Centre → Float) → Centre → Centre
reexponent e c = record { x = c.x; y = c.y; z = c.z; exponent = e c; charge = c.charge }

module _ (a b : Centre) (e : Centre → Float) where
  kept-other : (c : Centre) → charge_kept Nuclear (reexponent e c) ≡ charge_kept Nuclear c
  unfolding charge_kept
  kept-other c = refl

  used-other : (c : Centre) → used_finite Nuclear a b (reexponent e c) (reexponent e c) ≡ used_finite Nuclear a b c c
  unfolding used_finite used
  used-other c = refl

  geometry-other : (c : Centre) → geometry_finite Nuclear a b (reexponent e c) (reexponent e c) ≡ geometry_finite Nuclear a b c c
  unfolding geometry_finite finite_with geometry_numbers prefac entries_of
  geometry-other c = refl

  value-other : (l : ℕ) (c : Centre) (aux : Float) (boys : List Float) (ts : List Term) → charged_value l a b (reexponent e c) aux boys ts ≡ charged_value l a b c aux boys ts
  unfolding integral_of factor_of charged prefac entries_of
  value-other l c aux boys ts = refl

  sum-other : (l : ℕ) (aux : Float) (cs : List Centre) (boys : List Float) (ts : List Term) (sum : Float) → sum_from l a b aux (map (reexponent e) cs) boys ts sum ≡ sum_from l a b aux cs boys ts sum
  unfolding sum_from
  sum-other l aux [] boys ts sum = refl
  sum-other l aux (c ∷ cs) boys ts sum =
      ap (λ (x : Float). sum_from l a b aux (map (reexponent e) cs) (drop (l + 1) boys) ts (sum ⊕ x)) (value-other l c aux (take (l + 1) boys) ts)
      ∙ (sum-other l aux cs (drop (l + 1) boys) ts (sum ⊕ charged_value l a b c aux (take (l + 1) boys) ts))

  list-other : (l : ℕ) (n m : Nuclei) (aux : Float) (boys : List Float) (ts : List Term) → m.count ≡ n.count → nuclei_of m ≡ map (reexponent e) (nuclei_of n) → list_of l a b m aux boys ts ≡ list_of l a b n aux boys ts
  unfolding list_of list_kept inputs_finite
  list-other l n m aux boys ts count is =
      rw (is, count, all-mapped _ _ kept-other (nuclei_of n), all-mapped _ _ used-other (nuclei_of n), all-mapped _ _ geometry-other (nuclei_of n), sum-other l aux (nuclei_of n) boys ts 0·0)

  pub nuclei-reexponent : (s : List ℕ) (n m : Nuclei) (aux : Float) (boys : List Float) → m.count ≡ n.count → nuclei_of m ≡ map (reexponent e) (nuclei_of n) → nuclear_of s a b m aux boys ≡ nuclear_of s a b n aux boys
  unfolding nuclear_of of_roll
  nuclei-reexponent s n m aux boys count is = by (roll_at s)
    where
      by : (x : Reading Roll) → of_roll x a b m aux boys ≡ of_roll x a b n aux boys
      by (got r end) = rw (list-other (total r.orders) n m aux boys r.terms count is)
      by (refused number place) = refl
