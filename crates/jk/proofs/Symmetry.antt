-- J is symmetric bit for bit where I is the same at (mu, nu, ..) and (nu, mu, ..): its products are the same pairs in the same order.
use Prim.Native.Nat.{ℕ, zero, suc, ◌+◌, ◌<◌, ◌≤◌}
use mathlib.Core.Path.{◌≡◌, refl, sym, ap, ◌∙◌}
use mathlib.Core.Bool.{Bool, true, false, ◌&&◌}
use mathlib.Core.List.{List}
use native.Mathlib.Omega.{arith}
use lib.Ieee.{Float}
use lib.ListN.{length}
use Rattle.laws.specs.Unless.{unless}
use Rattle.laws.proofs.Cases.{clash}
use Rattle.geometry.specs.Floats.{◌⊕◌, ◌⊗◌, all_finite}
use Rattle.jk.specs.declared.Matrix.TheVariants.{J, K}
use Rattle.std.specs.Prelude.{Ok}
use Rattle.kind.specs.declared.refusals.Refusal.TheVariants.{InputNotFinite, ResultNotFinite, MatrixSize}
use Rattle.jk.specs.Sums.{at2, product, over_sigma, over_lambda, entry_of, matrix_of}
use Rattle.jk.specs.Outcome.{Outcome, outcome, refused, sized_of, summed_of, jk_of}
use Rattle.jk.specs.Symmetry.{AlikeInFirstTwo, Symmetric}
use Rattle.jk.proofs.Places.{entry_at}

-- sums of the same numbers in the same order
sigma-alike : (f g : ℕ → Float) (n left sigma : ℕ) (sum : Float) → left + sigma ≤ n → ((s : ℕ) → s < n → f s ≡ g s) → over_sigma f left sigma sum ≡ over_sigma g left sigma sum
unfolding over_sigma
sigma-alike f g n zero sigma sum h e = refl
sigma-alike f g n (suc left) sigma sum h e =
    let one : f sigma ≡ g sigma = e sigma (omega arith) in
    rw one (sigma-alike f g n left (suc sigma) (sum ⊕ g sigma) (omega arith) e)

lambda-alike : (f g : ℕ → ℕ → Float) (n left lambda : ℕ) (sum : Float) → left + lambda ≤ n → ((l s : ℕ) → l < n → s < n → f l s ≡ g l s) → over_lambda f n left lambda sum ≡ over_lambda g n left lambda sum
unfolding over_lambda
lambda-alike f g n zero lambda sum h e = refl
lambda-alike f g n (suc left) lambda sum h e =
    let one : over_sigma (f lambda) n 0 sum ≡ over_sigma (g lambda) n 0 sum = sigma-alike (f lambda) (g lambda) n n 0 sum (omega arith) (λ (s : ℕ) (k : s < n). e lambda s (omega arith) k) in
    rw one (lambda-alike f g n left (suc lambda) (over_sigma (g lambda) n 0 sum) (omega arith) e)

entry-alike : (n : ℕ) (i d : List Float) (mu nu : ℕ) → AlikeInFirstTwo n i → mu < n → nu < n → entry_of J n i d mu nu ≡ entry_of J n i d nu mu
unfolding entry_of product
entry-alike n i d mu nu s h k =
    lambda-alike (product J n i d mu nu) (product J n i d nu mu) n n 0 _ (omega arith) same
  where
    same : (l t : ℕ) → l < n → t < n → product J n i d mu nu l t ≡ product J n i d nu mu l t
    same l t a b = ap (λ (x : Float). x ⊗ at2 n d l t) (s mu nu l t h k a b)

pub J-symmetric : (n : ℕ) (i d : List Float) → AlikeInFirstTwo n i → Symmetric n (matrix_of J n i d)
J-symmetric n i d s mu nu h k = entry_at J n i d mu nu h k ∙ entry-alike n i d mu nu s h k ∙ sym (entry_at J n i d nu mu k h)

-- behind three checks, success is what stands behind the last
behind : (a b c : Bool) (one two three o : Outcome) → (one.answer ≡ Ok tt → ⊥) → (two.answer ≡ Ok tt → ⊥) → (three.answer ≡ Ok tt → ⊥) → (unless a one (unless b two (unless c three o))).answer ≡ Ok tt → unless a one (unless b two (unless c three o)) ≡ o
unfolding unless
behind true true true one two three o p q r e = refl
behind true true false one two three o p q r e = absurd (r e)
behind true false c one two three o p q r e = absurd (q e)
behind false b c one two three o p q r e = absurd (p e)

-- what the J of a success is
pub J-told-symmetric : (n : ℕ) (i d j k : List Float) → AlikeInFirstTwo n i → (jk_of n i d j k).answer ≡ Ok tt → Symmetric n (jk_of n i d j k).j
unfolding jk_of summed_of
J-told-symmetric n i d j k s e =
    let told =
    behind (sized_of n (length i) (length d) (length j) (length k)) (all_finite i && all_finite d) (all_finite (matrix_of J n i d) && all_finite (matrix_of K n i d)) (refused MatrixSize j k) (refused InputNotFinite j k) (refused ResultNotFinite j k)
    (outcome (Ok tt) (matrix_of J n i d) (matrix_of K n i d)) (λ z. clash (cc)) (λ z. clash (cc)) (λ z. clash (cc)) e
    in
    rw told (J-symmetric n i d s)
