-- Two terms are the same exactly where they are equal.
use Prim.Native.Nat.{ℕ}
use mathlib.Core.Path.{◌≡◌, ap, ap₂, ◌∙◌}
use mathlib.Core.Bool.{true}
use mathlib.Core.List.{List}
use borrow.Author.Tests.{eq-eqb, eqb-true}
use lib.Dec.{eqb}
use Rattle.laws.specs.Same.{same_numbers}
use Rattle.laws.proofs.Cases.{and-true-both}
use Rattle.laws.proofs.SameLaws.{same-numbers, same-numbers-is}
use Rattle.term.specs.Terms.{Term, same_term}

pub term-same : (t u : Term) → t ≡ u → same_term t u ≡ true
unfolding same_term
term-same t u is = rw (eq-eqb t.scale u.scale (ap (λ (t : Term). t.scale) is), eq-eqb t.boys u.boys (ap (λ (t : Term). t.boys) is)) (same-numbers t.prefactors u.prefactors (ap (λ (t : Term). t.prefactors) is))

pub term-equal : (t u : Term) → same_term t u ≡ true → t ≡ u
unfolding same_term
term-equal t u e =
    let a = and-true-both (eqb t.scale u.scale) _ e in
    let b = and-true-both (eqb t.boys u.boys) (same_numbers t.prefactors u.prefactors) a.1 in
    let scale = eqb-true t.scale u.scale a.0 in
    let boys = eqb-true t.boys u.boys b.0 in
    let prefactors = same-numbers-is t.prefactors u.prefactors b.1 in
    ap₂ (λ (n m : ℕ). record { scale = n; boys = m; prefactors = t.prefactors }) scale boys
    ∙ ap (λ (ps : List ℕ). record { scale = u.scale; boys = u.boys; prefactors = ps }) prefactors
