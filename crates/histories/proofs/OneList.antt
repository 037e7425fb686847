-- A list of histories that ascends is told by what is in it: two that hold the same are one list.
use Prim.Native.Nat.{ℕ, suc}
use mathlib.Core.Path.{◌≡◌, refl, sym, ap, ap₂, subst, ◌∙◌}
use mathlib.Core.Logic.{⊎_elim}
use mathlib.Core.List.Memᴰ
use mathlib.Core.List.{List, [], ◌∷◌, Memᴰ}
use native.Mathlib.Omega.{arith}
use lib.ListN.{length}
use Rattle.histories.specs.History.{Before, ends-sooner, branches-lower, branches-alike, Ascending, and_then}
use Rattle.histories.proofs.Ascends.{before-itself}

none_before : (g h : List ℕ) → Before g h → h ≡ [] → ⊥
none_before (j ∷ g) [] x5 e = elim x5 [ ]
none_before [] [] x4 e = elim x4 [ ]
none_before [] (k ∷ h) ends-sooner e = let n : suc (length h) ≡ 0 = ap length e in omega arith
none_before (j ∷ g) (k ∷ h) (branches-lower l) e = let n : suc (length h) ≡ 0 = ap length e in omega arith
none_before (j ∷ g) (k ∷ h) (branches-alike b) e = let n : suc (length h) ≡ 0 = ap length e in omega arith

both-before : (f g h i : List ℕ) → Before f g → Before h i → g ≡ h → f ≡ i → ⊥
both-before (j ∷ f) (k ∷ g) (m ∷ h) [] _ c e q = elim c [ ]
both-before (j ∷ f) (k ∷ g) [] [] _ c e q = elim c [ ]
both-before (j ∷ f) [] h i x9 c e q = elim x9 [ ]
both-before [] [] h i x8 c e q = elim x8 [ ]
both-before [] (k ∷ g) h i ends-sooner c e q = none_before h i c (sym q)
both-before (j ∷ f) (k ∷ g) [] (m ∷ i) (branches-lower l) ends-sooner e q = let n : suc (length g) ≡ 0 = ap length e in omega arith
both-before (j ∷ f) (k ∷ g) (m ∷ h) (n ∷ i) (branches-lower l) (branches-lower o) e q = let a : k ≡ m = cc in let b : j ≡ n = cc in omega arith
both-before (j ∷ f) (k ∷ g) (m ∷ h) (n ∷ i) (branches-lower l) (branches-alike c) e q = let a : k ≡ m = cc in let b : j ≡ m = cc in omega arith
both-before (j ∷ f) (k ∷ g) [] (m ∷ i) (branches-alike b) ends-sooner e q = let n : suc (length g) ≡ 0 = ap length e in omega arith
both-before (j ∷ f) (k ∷ g) (m ∷ h) (n ∷ i) (branches-alike b) (branches-lower o) e q = let a : j ≡ m = cc in let d : j ≡ n = cc in omega arith
both-before (j ∷ f) (k ∷ g) (m ∷ h) (n ∷ i) (branches-alike b) (branches-alike c) e q = both-before f g h i b c (cc) (cc)

-- of two, one alone stands before the other
not-both : (g h : List ℕ) → Before g h → Before h g → ⊥
not-both g h b c = both-before g h h g b c refl refl

pub one_list : (gs hs : List (List ℕ)) → Ascending gs → Ascending hs
    → ((h : List ℕ) → Memᴰ h gs → Memᴰ h hs) → ((h : List ℕ) → Memᴰ h hs → Memᴰ h gs) → gs ≡ hs
one_list [] [] p q f g = refl
one_list [] (h ∷ hs) p q f g = absurd (Memᴰ.not-nil (g h (Memᴰ.head refl)))
one_list (h ∷ gs) [] p q f g = absurd (Memᴰ.not-nil (f h (Memᴰ.head refl)))
one_list (x ∷ gs) (y ∷ hs) (and_then a p) (and_then b q) f g = ap₂ ◌∷◌ first (one_list gs hs p q later earlier)
  where
    first : x ≡ y
    first =
        ⊎_elim (λ (e : x ≡ y). e)
        (λ (m : Memᴰ x hs). ⊎_elim (λ (e : y ≡ x). sym e) (λ (n : Memᴰ y gs). absurd (not-both x y (a y n) (b x m))) (Memᴰ.cases_cons (g y (Memᴰ.head refl))))
        (Memᴰ.cases_cons (f x (Memᴰ.head refl)))

    later : (h : List ℕ) → Memᴰ h gs → Memᴰ h hs
    later h m =
        ⊎_elim (λ (e : h ≡ y). absurd (before-itself x (subst (Before x) (e ∙ sym first) (a h m)))) (λ (n : Memᴰ h hs). n)
        (Memᴰ.cases_cons (f h (Memᴰ.tail m)))

    earlier : (h : List ℕ) → Memᴰ h hs → Memᴰ h gs
    earlier h m =
        ⊎_elim (λ (e : h ≡ x). absurd (before-itself y (subst (Before y) (e ∙ first) (b h m)))) (λ (n : Memᴰ h gs). n)
        (Memᴰ.cases_cons (g h (Memᴰ.tail m)))
