-- Three orders with a sum of at most 1 are one of four lists. So a request of the profile is one of few, and each of these is worked out.
use Prim.Native.Nat.{ℕ, zero, suc, ◌+◌, ◌≤◌, ◌<◌}
use mathlib.Core.Path.{◌≡◌, refl, sym, ap, ap₂, ◌∙◌}
use mathlib.Core.Bool.{Bool, true, false, ◌&&◌}
use mathlib.Core.List.{List, [], ◌∷◌, ◌++◌, Memᴰ}
use native.Mathlib.Omega.{arith}
use native.Mathlib.Numerals.{add-one}
use borrow.Author.Tests.{leb-true, ltb-false}
use lib.Dec.{leb}
use lib.ListN.{length, get_or, drop, drop_of_length-le}
use lib.Seq.{drop-cons}
use Rattle.laws.specs.Total.{total}
use Rattle.laws.proofs.Cases.{and_left, and_right, false-not-true}
use Rattle.laws.proofs.Totals.{total-three}
use Rattle.kind.specs.declared.Kind.{Kind}
use Rattle.kind.specs.declared.Kind.TheVariants.{Overlap, Kinetic, Nuclear, Moment, Coulomb}
use Rattle.kind.specs.Kinds.{orders_of}
use Rattle.kind.specs.Limits.{request_orders}
use Rattle.steps.specs.declared.CentreName.{CentreName}
use Rattle.steps.specs.declared.CentreName.TheVariants.{A, B, C, D}
use Rattle.steps.specs.declared.Axis.TheVariants.{X}
use Rattle.steps.specs.Choice.{sum_of, order_place, chosen, first_axis}
use Rattle.steps.specs.Steps.{branches, times, lowered}
use Rattle.steps.specs.States.{step, turns, nexts}
use Rattle.histories.specs.Centres.{s, x1, at}
use Rattle.histories.specs.History.{depth, in_turn, walk, expand}
use Rattle.number.specs.Numbers.{groups, bytes_of}
use Rattle.roll.specs.Bytes.{numbers_bytes, term_bytes, terms_bytes, roll_bytes}
use Rattle.expansion.specs.Expanding.{unused_set, terms_of, roll_of}
use Rattle.small.specs.Profile.{most_small, at_most, both_at_most, all_at_most, small, most_small_terms, most_small_roll}
use Rattle.small.specs.Shown.{SmallRequest, FewTerms, ShortRoll, y1, z1, Reached}

-- ---- three orders

abbrev units : List (List ℕ)
units = s ∷ x1 ∷ y1 ∷ z1 ∷ []

is-unit : (x y z : ℕ) → x + y + z ≤ most_small → Memᴰ (x ∷ y ∷ z ∷ []) units
is-unit zero zero zero h = Memᴰ.head refl
is-unit (suc zero) zero zero h = Memᴰ.tail (Memᴰ.head refl)
is-unit zero (suc zero) zero h = Memᴰ.tail (Memᴰ.tail (Memᴰ.head refl))
is-unit zero zero (suc zero) h = Memᴰ.tail (Memᴰ.tail (Memᴰ.tail (Memᴰ.head refl)))
is-unit (suc (suc x)) y z h = absurd (omega arith)
is-unit (suc zero) (suc y) z h = absurd (omega arith)
is-unit (suc zero) zero (suc z) h = absurd (omega arith)
is-unit zero (suc (suc y)) z h = absurd (omega arith)
is-unit zero (suc zero) (suc z) h = absurd (omega arith)
is-unit zero zero (suc (suc z)) h = absurd (omega arith)

is_none : (x y z : ℕ) → x + y + z ≡ 0 → x ∷ y ∷ z ∷ [] ≡ s
is_none zero zero zero h = refl
is_none (suc x) y z h = absurd (omega arith)
is_none zero (suc y) z h = absurd (omega arith)
is_none zero zero (suc z) h = absurd (omega arith)

-- ---- twelve orders

abbrev three : List ℕ → ℕ → List ℕ
three os i = get_or os i 0 ∷ get_or os (i + 1) 0 ∷ get_or os (i + 2) 0 ∷ []

three-on : (os : List ℕ) (i : ℕ) → i + 2 < length os → drop i os ≡ three os i ++ drop (i + 3) os
three-on os i h =
    drop-cons os i 0 (omega arith)
    ∙ ap (λ (l : List ℕ). get_or os i 0 ∷ l)
    (ap (λ (j : ℕ). drop j os) (sym (add-one i)) ∙ drop-cons os (i + 1) 0 (omega arith)
    ∙ ap (λ (l : List ℕ). get_or os (i + 1) 0 ∷ l) (ap (λ (j : ℕ). drop j os) second ∙ drop-cons os (i + 2) 0 (omega arith) ∙ ap (λ (j : ℕ). get_or os (i + 2) 0 ∷ drop j os) third))
  where
    second : suc (i + 1) ≡ i + 2
    second = omega arith

    third : suc (i + 2) ≡ i + 3
    third = omega arith

by-centre : (os : List ℕ) → length os ≡ request_orders → os ≡ at (three os 0) (three os 3) (three os 6) (three os 9)
by-centre os in-full =
    three-on os 0 (omega arith)
    ∙ ap (λ (l : List ℕ). three os 0 ++ l)
    (three-on os 3 (omega arith)
    ∙ ap (λ (l : List ℕ). three os 3 ++ l)
    (three-on os 6 (omega arith)
    ∙ ap (λ (l : List ℕ). three os 6 ++ l) (three-on os 9 (omega arith) ∙ ap (λ (l : List ℕ). three os 9 ++ l) (drop_of_length-le os {i = request_orders} (omega arith)))))

-- ---- all of them

each : (List ℕ → Bool) → List (List ℕ) → Bool
each p [] = true
each p (x ∷ xs) = p x && each p xs

each-one : (p : List ℕ → Bool) (xs : List (List ℕ)) → each p xs ≡ true → (x : List ℕ) → Memᴰ x xs → p x ≡ true
unfolding each
each-one p [] all x x4 = elim x4 [ ]
each-one p (y ∷ xs) all x (Memᴰ.head e) = ap p e ∙ and_left (p y) (each p xs) all
each-one p (y ∷ xs) all x (Memᴰ.tail m) = each-one p xs (and_right (p y) (each p xs) all) x m

-- terms and bytes
fits : Kind → List ℕ → Bool
fits k orders = leb (length (terms_of k orders)) most_small_terms && leb (length (roll_of k orders)) most_small_roll

abbrev four_fit : List ℕ → List ℕ → List ℕ → List ℕ → Bool
four_fit a b c d = fits Coulomb (at a b c d)

abbrev two_fit : List ℕ → List ℕ → Bool
two_fit a b = fits Overlap (at a b s s)

all-coulomb : each (λ (a : List ℕ). each (λ (b : List ℕ). each (λ (c : List ℕ). each (λ (d : List ℕ). four_fit a b c d) units) units) units) units ≡ true
unfolding each fits chosen first_axis branches times lowered total step turns nexts depth in_turn walk expand groups bytes_of numbers_bytes term_bytes terms_bytes roll_bytes roll_of
all-coulomb = refl

all-overlap : each (λ (a : List ℕ). each (λ (b : List ℕ). two_fit a b) units) units ≡ true
unfolding each fits chosen first_axis branches times lowered total step turns nexts depth in_turn walk expand groups bytes_of numbers_bytes term_bytes terms_bytes roll_bytes roll_of
all-overlap = refl

-- ---- a request of the profile

abbrev fit-b : List ℕ → List ℕ → Bool
fit-b a b = each (λ (c : List ℕ). each (λ (d : List ℕ). four_fit a b c d) units) units

one-coulomb : (a b c d : List ℕ) → Memᴰ a units → Memᴰ b units → Memᴰ c units → Memᴰ d units → four_fit a b c d ≡ true
one-coulomb a b c d ma mb mc md =
    let of_a = each-one (λ (e : List ℕ). each (λ (f : List ℕ). fit-b e f) units) units all-coulomb a ma in
    let of_b = each-one (λ (f : List ℕ). fit-b a f) units of_a b mb in
    let of_c = each-one (λ (g : List ℕ). each (λ (h : List ℕ). four_fit a b g h) units) units of_b c mc in
    each-one (λ (h : List ℕ). four_fit a b c h) units of_c d md

one-overlap : (a b : List ℕ) → Memᴰ a units → Memᴰ b units → two_fit a b ≡ true
one-overlap a b ma mb = each-one (λ (f : List ℕ). two_fit a f) units (each-one (λ (e : List ℕ). each (λ (f : List ℕ). two_fit e f) units) units all-overlap a ma) b mb

module _ (os : List ℕ) (in-full : length os ≡ request_orders) where
  unit : (c : CentreName) → at_most os c ≡ true → Memᴰ (three os (order_place c X)) units
  unit A h = is-unit _ _ _ (leb-true (sum_of os A) most_small h)
  unit B h = is-unit _ _ _ (leb-true (sum_of os B) most_small h)
  unit C h = is-unit _ _ _ (leb-true (sum_of os C) most_small h)
  unit D h = is-unit _ _ _ (leb-true (sum_of os D) most_small h)

  unit-first : (c d : CentreName) → both_at_most os c d ≡ true → Memᴰ (three os (order_place c X)) units
  unit-first c d h = unit c (and_left (at_most os c) (at_most os d) h)

  unit-then : (c d : CentreName) → both_at_most os c d ≡ true → Memᴰ (three os (order_place d X)) units
  unit-then c d h = unit d (and_right (at_most os c) (at_most os d) h)

  of-coulomb : all_at_most os ≡ true → fits Coulomb os ≡ true
  of-coulomb h =
      let ab = and_left (both_at_most os A B) (both_at_most os C D) h in
      let cd = and_right (both_at_most os A B) (both_at_most os C D) h in
      ap (fits Coulomb) (by-centre os in-full)
      ∙ one-coulomb (three os 0) (three os 3) (three os 6) (three os 9) (unit-first A B ab) (unit-then A B ab) (unit-first C D cd) (unit-then C D cd)

  -- the orders of C and D are unused
  of-overlap : total (drop (orders_of Overlap) os) ≡ 0 → both_at_most os A B ≡ true → fits Overlap os ≡ true
  of-overlap none h =
      ap (fits Overlap) (by-centre os in-full ∙ ap₂ (λ (c d : List ℕ). at (three os 0) (three os 3) c d) (is_none _ _ _ of_c_lem) (is_none _ _ _ of-d))
      ∙ one-overlap (three os 0) (three os 3) (unit-first A B h) (unit-then A B h)
    where
      of_c_lem : sum_of os C ≡ 0
      of_c_lem = let t = total-three os 6 in omega arith

      of-d : sum_of os D ≡ 0
      of-d = let t = total-three os 6 in let u = total-three os 9 in omega arith

request-fits : (k : Kind) (os : List ℕ) → SmallRequest k os → fits k os ≡ true
unfolding small
request-fits Overlap os may = of-overlap os may.in-full (let h = ltb-false 0 (total (drop (orders_of Overlap) os)) may.none-unused in omega arith) may.within
request-fits Kinetic os may = false-not-true may.within
request-fits Nuclear os may = false-not-true may.within
request-fits Moment os may = false-not-true may.within
request-fits Coulomb os may = of-coulomb os may.in-full may.within

-- ---- so neither its terms nor its bytes are more

pub few-terms : FewTerms
unfolding fits
few-terms k os may = leb-true (length (terms_of k os)) most_small_terms (and_left (leb (length (terms_of k os)) most_small_terms) (leb (length (roll_of k os)) most_small_roll) (request-fits k os may))

pub short-roll : ShortRoll
unfolding fits
short-roll k os may = leb-true (length (roll_of k os)) most_small_roll (and_right (leb (length (terms_of k os)) most_small_terms) (leb (length (roll_of k os)) most_small_roll) (request-fits k os may))

-- ---- and both are reached

pub reached : Reached
unfolding small chosen first_axis branches times lowered total step turns nexts depth in_turn walk expand groups bytes_of numbers_bytes term_bytes terms_bytes roll_bytes roll_of
reached = ((there x1 refl refl refl, refl, refl), (there y1 refl refl refl, refl, refl), (there z1 refl refl refl, refl, refl))
  where
    there : (centre : List ℕ) → length (at centre centre centre centre) ≡ request_orders → unused_set Coulomb (at centre centre centre centre) ≡ false → small Coulomb (at centre centre centre centre) ≡ true
        → SmallRequest Coulomb (at centre centre centre centre)
    there centre f u w = record { in-full = f; none-unused = u; within = w }
