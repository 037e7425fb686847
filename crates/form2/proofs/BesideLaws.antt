-- Bytes that two lists begin with, counted one by one, and the same of lists one behind the other.
use Prim.Native.Nat.{ℕ, suc, ◌+◌, ◌≤◌, ◌<◌, min}
use mathlib.Core.Path.{◌≡◌, refl, sym, ap, ap₂, ◌∙◌}
use mathlib.Core.Bool.{Bool, true, false, cond}
use mathlib.Core.List.{List, [], ◌∷◌, ◌++◌}
use native.Mathlib.Omega.{arith}
use borrow.Author.Tests.{eq-eqb, ne_eqb}
use lib.Dec.{eqb}
use lib.ListN.{length, get_or, take, drop}
use lib.Seq.{take_all}
use Rattle.laws.proofs.Lists.{drop_head}
use Rattle.form2.specs.Bytes.{shared}
use Rattle.form2.proofs.Sharing.{shares}

pub shared-heads : (p q : ℕ) (ps qs : List ℕ) (b : Bool) → eqb p q ≡ b → shared (p ∷ ps) (q ∷ qs) ≡ cond b (suc (shared ps qs)) 0
unfolding shared
shared-heads p q ps qs b e = rw e

pub none-shared : (qs : List ℕ) → shared [] qs ≡ 0
unfolding shared
none-shared qs = refl

-- so many are shared, and those behind them
pub record Beside (a b : List ℕ) (i : ℕ) : Type 0 where
  pub same : shared a b ≡ i + shared (drop i a) (drop i b)

pub beside_first : (a b : List ℕ) → Beside a b 0
beside_first a b = record { same = omega arith }

module _ (a b : List ℕ) (most i : ℕ) (limit : most ≡ min (length a) (length b)) (beside : Beside a b i) where
  two-heads : i < most → shared (drop i a) (drop i b) ≡ shared (get_or a i 0 ∷ drop (i + 1) a) (get_or b i 0 ∷ drop (i + 1) b)
  two-heads less = ap₂ shared (drop_head a i (get_or a i 0) (omega arith) refl) (drop_head b i (get_or b i 0) (omega arith) refl)

  pub beside-more : i < most → get_or a i 0 ≡ get_or b i 0 → Beside a b (i + 1)
  beside-more less equal =
      let one = two-heads less ∙ shared-heads (get_or a i 0) (get_or b i 0) (drop (i + 1) a) (drop (i + 1) b) true (eq-eqb (get_or a i 0) (get_or b i 0) equal) in
      record { same = omega (arith, beside.same, one) }

  pub beside-differ : i < most → (get_or a i 0 ≡ get_or b i 0 → ⊥) → i ≡ shared a b
  beside-differ less differ =
      let one = two-heads less ∙ shared-heads (get_or a i 0) (get_or b i 0) (drop (i + 1) a) (drop (i + 1) b) false (ne_eqb (get_or a i 0) (get_or b i 0) differ) in
      omega (arith, beside.same, one)

  pub beside-done : most ≤ i → most ≡ shared a b
  beside-done done = let both = shares a b in let left = both.left in let right = both.right in omega (arith, beside.same)

-- ---- beside lists one behind the other

-- less than all of the first one is shared: what is behind it does not count
pub shared-within : (a xs ys : List ℕ) → shared a xs < length xs → shared a (xs ++ ys) ≡ shared a xs
unfolding shared
shared-within a [] ys less = absurd (omega arith)
shared-within [] (x ∷ xs) ys less = refl
shared-within (p ∷ a) (x ∷ xs) ys less = by (shared-within a xs ys) (eqb p x) less
  where
    by : (shared a xs < length xs → shared a (xs ++ ys) ≡ shared a xs) → (b : Bool) → cond b (suc (shared a xs)) 0 < suc (length xs) → cond b (suc (shared a (xs ++ ys))) 0 ≡ cond b (suc (shared a xs)) 0
    by rest true h = ap suc (rest (omega arith))
    by rest false h = refl

-- all of the first one is shared, and of the second what stands behind it
pub shared-whole : (a xs ys : List ℕ) → shared a xs ≡ length xs → shared a (xs ++ ys) ≡ length xs + shared (drop (length xs) a) ys
unfolding shared
shared-whole a [] ys all = omega arith
shared-whole [] (x ∷ xs) ys all = absurd (omega arith)
shared-whole (p ∷ a) (x ∷ xs) ys all = by (shared-whole a xs ys) (eqb p x) all
  where
    by : (shared a xs ≡ length xs → shared a (xs ++ ys) ≡ length xs + shared (drop (length xs) a) ys) → (b : Bool) → cond b (suc (shared a xs)) 0 ≡ suc (length xs) → cond b (suc (shared a (xs ++ ys))) 0 ≡ suc (length xs) + shared (drop (length xs) a) ys
    by rest true h = let more = rest (omega arith) in omega (arith, more)
    by rest false h = absurd (omega arith)

-- a list shares all of itself
pub shared-itself : (a : List ℕ) → shared a a ≡ length a
unfolding shared
shared-itself [] = refl
shared-itself (p ∷ a) = rw (eq-eqb p p refl) (ap suc (shared-itself a))

-- lists of one length that share it are the same
pub shared-all : (a b : List ℕ) → shared a b ≡ length b → length a ≡ length b → a ≡ b
shared-all a b all long =
    let s = shares a b in
    let e : take (shared a b) a ≡ take (shared a b) b = s.same in
    sym (take_all (shared a b) a (omega arith)) ∙ e ∙ take_all (shared a b) b (omega arith)
