-- A component's answer: refusal 2 before 13, and a pair as a quadruple whose last two shells have one triple each.
use Prim.Native.Nat.{ℕ, ◌*◌, ◌≤◌, ◌<◌}
use mathlib.Core.Path.{◌≡◌, refl, sym, ap, ◌∙◌}
use mathlib.Core.Bool.{Bool, true, false, ◌||◌, or-false}
use mathlib.Core.List.{List, [], ◌∷◌, ◌++◌, map, flat_map}
use native.Mathlib.Omega.{arith}
use borrow.Author.Tests.{lt-ltb, le-ltb, ltb-false}
use lib.Dec.{ltb}
use lib.ListN.{length, get_or, replicate}
use Rattle.std.specs.Prelude.{Result, Ok, Err}
use Rattle.kind.specs.declared.refusals.Refusal.{Refusal}
use Rattle.kind.specs.declared.refusals.Refusal.TheVariants.{OrderSum, ComponentNumber}
use Rattle.kind.specs.Limits.{most_order}
use Rattle.laws.proofs.Cases.{or-false-both}
use Rattle.shell.specs.Shells.{descending, triples, beside, pairs, quadruples, component, shell2_of, shell4_of}
use Rattle.shell.specs.inner.Rows.{Counts}
use Rattle.shell.proofs.Places.{counts-beside, beside-inside}

pub low_first : (a b : ℕ) (r : Bool) → r ≡ (ltb most_order a || ltb most_order b) → r ≡ false → a ≤ most_order
low_first a b r is e = ltb-false most_order a (or-false-both (ltb most_order a) (ltb most_order b) (sym is ∙ e)).0

pub low_second : (a b : ℕ) (r : Bool) → r ≡ (ltb most_order a || ltb most_order b) → r ≡ false → b ≤ most_order
low_second a b r is e = ltb-false most_order b (or-false-both (ltb most_order a) (ltb most_order b) (sym is ∙ e)).1

pub refused-first : (a b c d number : ℕ) (r : Bool) (x : Result (List ℕ) Refusal) → r ≡ (ltb most_order a || ltb most_order b) → r ≡ true → x ≡ Err OrderSum → x ≡ shell4_of a b c d number
unfolding shell4_of
refused-first a b c d number r x is e answer = let high : (ltb most_order a || ltb most_order b) ≡ true = sym is ∙ e in simp high answer

pub refused-second : (a b c d number : ℕ) (r q : Bool) (x : Result (List ℕ) Refusal) → r ≡ (ltb most_order a || ltb most_order b) → r ≡ false → q ≡ (ltb most_order c || ltb most_order d) → q ≡ true → x ≡ Err OrderSum → x ≡ shell4_of a b c d number
unfolding shell4_of
refused-second a b c d number r q x is e is' e' answer =
    let low : (ltb most_order a || ltb most_order b) ≡ false = sym is ∙ e in
    let high : (ltb most_order c || ltb most_order d) ≡ true = sym is' ∙ e' in
    simp (low, high) answer

pub numbered-four : (a b c d number : ℕ) (r q : Bool) (x : Result (List ℕ) Refusal) → r ≡ (ltb most_order a || ltb most_order b) → r ≡ false → q ≡ (ltb most_order c || ltb most_order d) → q ≡ false → x ≡ component (quadruples a b c d) number → x ≡ shell4_of a b c d number
unfolding shell4_of
numbered-four a b c d number r q x is e is' e' answer =
    let low : (ltb most_order a || ltb most_order b) ≡ false = sym is ∙ e in
    let low' : (ltb most_order c || ltb most_order d) ≡ false = sym is' ∙ e' in
    simp (low, low') answer

-- ---- 13, or what stands at the number

pub component-past : (xs ys : List (List ℕ)) (most most' n k number : ℕ) (x : Result (List ℕ) Refusal) → Counts xs most n → Counts ys most' k → n * k ≤ number → x ≡ Err ComponentNumber → x ≡ component (beside xs ys) number
unfolding component
component-past xs ys most most' n k number x first second past answer =
    let over : length (beside xs ys) ≤ number = omega (arith, (counts-beside first second).is) in
    simp (le-ltb number (length (beside xs ys)) over) answer

pub component-found : (xs ys : List (List ℕ)) (most most' n k number : ℕ) (x : Result (List ℕ) Refusal) → Counts xs most n → Counts ys most' k → number < n * k → x ≡ Ok (get_or (beside xs ys) number []) → x ≡ component (beside xs ys) number
unfolding component
component-found xs ys most most' n k number x first second below answer =
    simp (lt-ltb number (length (beside xs ys)) (beside-inside first second number below)) answer

-- ---- a pair as a quadruple

beside-one : (xs : List (List ℕ)) (z : List ℕ) → beside xs (z ∷ []) ≡ map (λ (x : List ℕ). x ++ z) xs
unfolding beside flat_map
beside-one [] z = refl
beside-one (x ∷ xs) z = ap (λ (l : List (List ℕ)). (x ++ z) ∷ l) (beside-one xs z)

pairs-of-zero : pairs 0 0 ≡ replicate 6 0 ∷ []
unfolding beside flat_map triples descending
pairs-of-zero = refl

pub pair-of-four : (a b number : ℕ) (x : Result (List ℕ) Refusal) → x ≡ shell4_of a b 0 0 number → x ≡ shell2_of a b number
unfolding shell4_of shell2_of
pair-of-four a b number x answer =
    let list : quadruples a b 0 0 ≡ map (λ (pair : List ℕ). pair ++ replicate 6 0) (pairs a b) = ap (beside (pairs a b)) pairs-of-zero ∙ beside-one (pairs a b) (replicate 6 0) in
    rw answer (rw (list, or-false (ltb most_order a || ltb most_order b)))
