-- Measures add up: what two lists measure together, in what order sums are made, and the multipliers after a group.
use Prim.Native.Nat.{ℕ, zero, suc, ◌+◌, ◌*◌, ◌/◌, ◌≤◌, ◌<◌}
use mathlib.Core.Path.{◌≡◌, refl, sym, ap, ap₂, ◌∙◌}
use mathlib.Core.Bool.{Bool, true, false, cond}
use mathlib.Core.List.{List, [], ◌++◌}
use native.Mathlib.Omega.{arith}
use borrow.Author.Tests.{le-leb, lt-leb, leb-true, leb-false, eq-eqb, ne_eqb}
use lib.Dec.{leb}
use lib.ListN.{length, length-append}
use Rattle.kind.specs.Limits.{most_terms}
use Rattle.term.specs.Terms.{Term}
use Rattle.roll.specs.Bytes.{terms_bytes}
use Rattle.expansion.specs.inner.Measuring.{Measured}
use Rattle.expansion.specs.inner.Measuring.{Fits}
use Rattle.expansion.specs.inner.Measuring.{measured, plus, in_pairs, skip_of, terms_in, bytes_in, SmallMeasure}
use Rattle.expansion.proofs.WalkTurns.{terms-append}
use Rattle.std.specs.Prelude.{None}

pub measured-few : (ts : List Term) → length ts ≤ most_terms → measured ts ≡ Fits (length ts) (length (terms_bytes ts))
unfolding measured
measured-few ts h = ap (λ (v : Bool). cond v (Fits (length ts) (length (terms_bytes ts))) None) (le-leb (length ts) most_terms h)

pub measured-many : (ts : List Term) → most_terms < length ts → measured ts ≡ None
unfolding measured
measured-many ts h = ap (λ (v : Bool). cond v (Fits (length ts) (length (terms_bytes ts))) None) (lt-leb (length ts) most_terms h)

-- two lists one after the other
pub measured-append : (xs ys : List Term) → measured (xs ++ ys) ≡ plus (measured xs) (measured ys)
unfolding plus
measured-append xs ys = first (leb (length xs) most_terms) refl
  where
    long : length (xs ++ ys) ≡ length xs + length ys
    long = length-append xs ys

    bytes : length (terms_bytes (xs ++ ys)) ≡ length (terms_bytes xs) + length (terms_bytes ys)
    bytes = ap length (terms-append xs ys) ∙ length-append (terms_bytes xs) (terms_bytes ys)

    both : (v : Bool) → leb (length xs + length ys) most_terms ≡ v → measured (xs ++ ys) ≡ cond v (Fits (length xs + length ys) (length (terms_bytes xs) + length (terms_bytes ys))) None
    both true e = measured-few (xs ++ ys) (let h = leb-true (length xs + length ys) most_terms e in let l = long in omega arith) ∙ ap₂ Fits long bytes
    both false e = measured-many (xs ++ ys) (let h = leb-false (length xs + length ys) most_terms e in let l = long in omega arith)

    second : length xs ≤ most_terms → (v : Bool) → leb (length ys) most_terms ≡ v → measured (xs ++ ys) ≡ plus (measured xs) (measured ys)
    second h true e =
        both (leb (length xs + length ys) most_terms) refl
        ∙ sym (ap₂ plus (measured-few xs h) (measured-few ys (leb-true (length ys) most_terms e)))
    second h false e =
        measured-many (xs ++ ys) (let k = leb-false (length ys) most_terms e in let l = long in omega arith)
        ∙ sym (ap₂ plus (measured-few xs h) (measured-many ys (leb-false (length ys) most_terms e)))

    first : (v : Bool) → leb (length xs) most_terms ≡ v → measured (xs ++ ys) ≡ plus (measured xs) (measured ys)
    first true e = second (leb-true (length xs) most_terms e) (leb (length ys) most_terms) refl
    first false e =
        measured-many (xs ++ ys) (let k = leb-false (length xs) most_terms e in let l = long in omega arith)
        ∙ sym (ap (λ (m : Measured). plus m (measured ys)) (measured-many xs (leb-false (length xs) most_terms e)))

module _ (m : Measured) (s : SmallMeasure m) (a b : ℕ) (is : m ≡ Fits a b) where
  pub small-terms : a ≤ most_terms
  small-terms = let h = s.few in let e = ap terms_in is in omega arith

  pub small_bytes : b ≤ 32 * a
  small_bytes = let h = s.short in let e = ap terms_in is in let f = ap bytes_in is in omega arith

pub small-fits : (a b : ℕ) → a ≤ most_terms → b ≤ 32 * a → SmallMeasure (Fits a b)
small-fits a b h k = record { few = h; short = k }

pub small-over : SmallMeasure None
small-over = record { few = omega arith; short = omega arith }

pub small-none : SmallMeasure (Fits 0 0)
small-none = record { few = omega arith; short = omega arith }

-- nothing before, and nothing more
pub none-plus : (ts : List Term) → plus (Fits 0 0) (measured ts) ≡ measured ts
unfolding terms_bytes
none-plus ts = ap (λ (m : Measured). plus m (measured ts)) (sym (measured-few [] (omega arith))) ∙ sym (measured-append [] ts)

pub plus_none : (m : Measured) → SmallMeasure m → m ≡ plus m (Fits 0 0)
unfolding plus
plus_none (Fits a b) s =
    let few : a + 0 ≤ most_terms = omega (arith, small-terms (Fits a b) s a b refl) in
    let same : a + 0 ≡ a = omega arith in
    let long : b + 0 ≡ b = omega arith in
    sym (ap (λ (v : Bool). cond v (Fits (a + 0) (b + 0)) None) (le-leb (a + 0) most_terms few) ∙ ap₂ Fits same long)
plus_none None s = refl

pub plus-over : (m : Measured) → plus m None ≡ None
unfolding plus
plus-over (Fits a b) = refl
plus-over None = refl

-- sums of three, in either order
pub plus-again : (l m n : Measured) → plus l (plus m n) ≡ plus (plus l m) n
unfolding plus
plus-again None m n = refl
plus-again (Fits a b) None n = refl
plus-again (Fits a b) (Fits c d) None = sym (plus-over (plus (Fits a b) (Fits c d)))
plus-again (Fits a b) (Fits c d) (Fits e f) = at (leb (c + e) most_terms) refl (leb (a + c) most_terms) refl
  where
    grouped : a + (c + e) ≡ a + c + e
    grouped = omega arith

    all : plus (Fits a b) (Fits (c + e) (d + f)) ≡ plus (Fits (a + c) (b + d)) (Fits e f)
    all =
        let bytes : b + (d + f) ≡ b + d + f = omega arith in
        ap₂ (λ (x y : ℕ). cond (leb x most_terms) (Fits x y) None) grouped bytes

    many : most_terms < a + c + e → plus (Fits (a + c) (b + d)) (Fits e f) ≡ None
    many h = ap (λ (v : Bool). cond v (Fits (a + c + e) (b + d + f)) None) (lt-leb (a + c + e) most_terms h)

    first-many : most_terms < a + (c + e) → plus (Fits a b) (Fits (c + e) (d + f)) ≡ None
    first-many h = ap (λ (v : Bool). cond v (Fits (a + (c + e)) (b + (d + f))) None) (lt-leb (a + (c + e)) most_terms h)

    at : (u : Bool) → leb (c + e) most_terms ≡ u → (v : Bool) → leb (a + c) most_terms ≡ v
        → plus (Fits a b) (cond u (Fits (c + e) (d + f)) None) ≡ plus (cond v (Fits (a + c) (b + d)) None) (Fits e f)
    at true h true g = all
    at true h false g = let l = leb-false (a + c) most_terms g in first-many (omega arith)
    at false h true g = let l = leb-false (c + e) most_terms h in sym (many (omega arith))
    at false h false g = refl

pub skip-two : (w times : ℕ) → w ≡ 2 → times / 256 ≡ skip_of w times
skip-two w times e = sym (ap (λ (v : Bool). cond v (times / 256) (times / 16)) (eq-eqb w 2 e))

pub skip-one : (w times : ℕ) → (w ≡ 2 → ⊥) → times / 16 ≡ skip_of w times
skip-one w times e = sym (ap (λ (v : Bool). cond v (times / 256) (times / 16)) (ne_eqb w 2 e))

pub no-pair : (n : ℕ) → (n ≡ 0 → ⊥) → (n ≡ 2 → ⊥) → (n ≡ 4 → ⊥) → 1 ≡ in_pairs n
no-pair zero a b c = absurd (a refl)
no-pair (suc zero) a b c = refl
no-pair (suc (suc zero)) a b c = absurd (b refl)
no-pair (suc (suc (suc zero))) a b c = refl
no-pair (suc (suc (suc (suc zero)))) a b c = absurd (c refl)
no-pair (suc (suc (suc (suc (suc n))))) a b c = refl
