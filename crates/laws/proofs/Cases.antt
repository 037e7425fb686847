-- What a test leaves, and what can't be.
use Prim.Native.Nat.{ℕ}
use mathlib.Core.Path.{◌≡◌, refl, sym, ap, ◌∙◌}
use mathlib.Core.Bool.{Bool, true, false, ◌&&◌, ◌||◌, true≢false, false≢true}
use native.Mathlib.Omega.{arith}

-- two variants of an enum have two numbers: `clash (cc)` refutes an equation between them
pub clash : ◌≡◌ {A = ℕ} 0 1 → ⊥
clash e = omega arith

-- what is promised where an answer is true says nothing of one that is false
pub false-not-true : {P : Type 0} → false ≡ true → P
false-not-true e = absurd (false≢true e)

-- by cases on a test
pub tested : {P : Type 0} (b : Bool) → (b ≡ true → P) → (b ≡ false → P) → P
tested true t f = t refl
tested false t f = f refl

pub or-false-both : (p q : Bool) → (p || q) ≡ false → (p ≡ false) × (q ≡ false)
or-false-both true q e = absurd (true≢false e)
or-false-both false q e = (refl, e)

pub and-true-both : (p q : Bool) → (p && q) ≡ true → (p ≡ true) × (q ≡ true)
and-true-both true q e = (refl, e)
and-true-both false q e = absurd (false≢true e)

-- two tests in a row: the first settles the answer, or leaves it to the second
pub or-first : (x a b : Bool) → x ≡ a → x ≡ true → true ≡ (a || b)
or-first x a b e t = ap (λ (v : Bool). v || b) (sym t ∙ e)

pub or-then : (x y a b : Bool) → x ≡ a → x ≡ false → y ≡ b → y ≡ (a || b)
or-then x y a b e f h = h ∙ ap (λ (v : Bool). v || b) (sym f ∙ e)

pub and_first : (x a b : Bool) → x ≡ a → x ≡ false → false ≡ (a && b)
and_first x a b e f = ap (λ (v : Bool). v && b) (sym f ∙ e)

pub and_then : (x y a b : Bool) → x ≡ a → x ≡ true → y ≡ b → y ≡ (a && b)
and_then x y a b e t h = h ∙ ap (λ (v : Bool). v && b) (sym t ∙ e)

pub and_left : (p q : Bool) → (p && q) ≡ true → p ≡ true
and_left p q e = (and-true-both p q e).0

pub and_right : (p q : Bool) → (p && q) ≡ true → q ≡ true
and_right p q e = (and-true-both p q e).1
