-- The tests of the definition say what they should: numbers and terms are the same exactly where they are equal, and where they are held alike.
use Prim.Native.Nat.{ℕ, ◌-◌}
use mathlib.Core.Path.{◌≡◌, refl, sym, ap, ◌∙◌}
use mathlib.Core.Bool.{Bool, true, false, ◌&&◌}
use mathlib.Core.List.{List, ◌++◌}
use borrow.Author.Tests.{eq-eqb, eqb-true}
use lib.Dec.{eqb}
use lib.ListN.{length, take, replicate}
use lib.Seq.{take-append_seam}
use Rattle.kind.specs.Limits.{most_l·any}
use Rattle.laws.proofs.Cases.{and-true-both}
use Rattle.laws.proofs.SameLaws.{same-numbers, same-numbers-is}
use Rattle.term.specs.Terms.{Term, held, same_term}
use Rattle.laws.specs.Same.{same_numbers}
use Rattle.comparing.specs.Pairs.{same_held}

-- two tests with the same answer
pub alike : (a b : Bool) → (a ≡ true → b ≡ true) → (b ≡ true → a ≡ true) → a ≡ b
alike true b there back = sym (there refl)
alike false true there back = back refl
alike false false there back = refl

-- terms as they are held: with the same count, the zeros behind the prefactors are as many
padded : (l r : List ℕ) (n m : ℕ) → length l ≡ length r → l ++ replicate n 0 ≡ r ++ replicate m 0 → l ≡ r
padded l r n m long e =
    sym (take-append_seam l (replicate n 0)) ∙ ap (take (length l)) e ∙ ap (λ (i : ℕ). take i (r ++ replicate m 0)) long ∙ take-append_seam r (replicate m 0)

held-numbers : (l r : List ℕ) → (eqb (length l) (length r) && same_numbers (l ++ replicate (most_l·any - length l) 0) (r ++ replicate (most_l·any - length r) 0)) ≡ same_numbers l r
held-numbers l r =
    alike _ _
    (λ e.
    let b = and-true-both (eqb (length l) (length r)) _ e in
    let long = eqb-true (length l) (length r) b.0 in
    let all = same-numbers-is (l ++ replicate (most_l·any - length l) 0) (r ++ replicate (most_l·any - length r) 0) b.1 in
    same-numbers l r (padded l r (most_l·any - length l) (most_l·any - length r) long all))
    (λ e.
    let is = same-numbers-is l r e in
    rw (eq-eqb (length l) (length r) (ap length is)) (same-numbers _ _ (ap (λ (l : List ℕ). l ++ replicate (most_l·any - length l) 0) is)))

pub held_same : (l r : Term) → same_held (held l) (held r) ≡ same_term l r
unfolding same_held same_term
held_same l r = ap (λ (b : Bool). eqb l.scale r.scale && (eqb l.boys r.boys && b)) (held-numbers l.prefactors r.prefactors)
