-- Two lists have the same numbers exactly where they are equal.
use Prim.Native.Nat.{ℕ}
use mathlib.Core.Path.{◌≡◌, refl, sym, ap, ◌∙◌}
use mathlib.Core.Bool.{true}
use mathlib.Core.List.{List, [], ◌∷◌}
use borrow.Author.Tests.{eq-eqb, eqb-true}
use lib.Dec.{eqb}
use Rattle.laws.specs.Same.{same_numbers}
use Rattle.laws.proofs.Cases.{clash, and-true-both}

pub same-numbers-refl : (xs : List ℕ) → same_numbers xs xs ≡ true
unfolding same_numbers
same-numbers-refl [] = refl
same-numbers-refl (x ∷ xs) = rw (eq-eqb x x refl) (same-numbers-refl xs)

pub same-numbers : (xs ys : List ℕ) → xs ≡ ys → same_numbers xs ys ≡ true
same-numbers xs ys is = ap (λ (ys : List ℕ). same_numbers xs ys) (sym is) ∙ same-numbers-refl xs

pub same-numbers-is : (xs ys : List ℕ) → same_numbers xs ys ≡ true → xs ≡ ys
unfolding same_numbers
same-numbers-is [] [] e = refl
same-numbers-is [] (y ∷ ys) e = absurd (clash (cc))
same-numbers-is (x ∷ xs) [] e = absurd (clash (cc))
same-numbers-is (x ∷ xs) (y ∷ ys) e =
    let b = and-true-both (eqb x y) (same_numbers xs ys) e in
    let head : x ≡ y = eqb-true x y b.0 in
    let tail : xs ≡ ys = same-numbers-is xs ys b.1 in
    cc (head, tail)
