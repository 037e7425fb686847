-- The longest beginning that two lists share: what follows it differs, and that alone makes it the longest.
use Prim.Native.Nat.{ℕ, zero, suc, zero-le, ◌≤◌}
use mathlib.Core.Path.{◌≡◌, refl, sym, ap, ◌∙◌}
use mathlib.Core.Bool.{Bool, true, false, cond}
use mathlib.Core.List.{List, [], ◌∷◌, ◌++◌}
use native.Mathlib.Omega.{arith}
use borrow.Author.Tests.{eq-eqb, eqb-true}
use lib.Dec.{eqb}
use lib.ListN.{length, take, drop, take-append-drop}
use lib.Seq.{drop_at, length-take-le}
use Rattle.form2.specs.Bytes.{shared, further_of}
use Rattle.form2.specs.Reading.{goes_on}

-- the first of a list is not the one that follows in the other
abbrev pub Parts : List ℕ → List ℕ → Type 0
Parts follow [] = Unit
Parts follow (p ∷ ps) = goes_on follow p ≡ false

pub shared-none : (qs : List ℕ) → shared qs [] ≡ 0
unfolding shared
shared-none [] = refl
shared-none (q ∷ qs) = refl

-- nothing is shared by lists that part at once
shared-parts : (qs ps : List ℕ) → Parts qs ps → shared qs ps ≡ 0
unfolding shared
shared-parts [] ps parts = refl
shared-parts (q ∷ qs) [] parts = refl
shared-parts (q ∷ qs) (p ∷ ps) parts = rw parts

pub shared-is : (n : ℕ) (qs ps : List ℕ) → n ≤ length qs → Parts (drop n qs) ps → shared qs (take n qs ++ ps) ≡ n
unfolding shared
shared-is zero qs ps inside parts = shared-parts qs ps parts
shared-is (suc n) [] ps inside parts = absurd (omega (arith, inside))
shared-is (suc n) (q ∷ qs) ps inside parts = rw (eq-eqb q q refl) (ap suc (shared-is n qs ps (omega (arith, inside)) parts))

pub record Shares (qs ps : List ℕ) (n : ℕ) : Type 0 where
  pub left : n ≤ length qs
  pub right : n ≤ length ps
  pub same : take n qs ≡ take n ps
  pub parts : Parts (drop n qs) (drop n ps)

pub shares : (qs ps : List ℕ) → Shares qs ps (shared qs ps)
unfolding shared
shares [] [] = record { left = zero-le; right = zero-le; same = refl; parts = tt }
shares [] (p ∷ ps) = record { left = zero-le; right = zero-le; same = refl; parts = refl }
shares (q ∷ qs) [] = record { left = zero-le; right = zero-le; same = refl; parts = tt }
shares (q ∷ qs) (p ∷ ps) = by (shares qs ps) (eqb q p) refl
  where
    by : Shares qs ps (shared qs ps) → (b : Bool) → eqb q p ≡ b → Shares (q ∷ qs) (p ∷ ps) (cond b (suc (shared qs ps)) 0)
    by r true e =
        let one : q ≡ p = eqb-true q p e in
        let left = r.left in
        let right = r.right in
        record { left = omega arith; right = omega arith; same = cc (one, r.same); parts = r.parts }
    by r false e = record { left = zero-le; right = zero-le; same = refl; parts = e }

-- a list is what it shares and what is further
pub further-joined : (qs ps : List ℕ) → ps ≡ take (shared qs ps) qs ++ further_of qs ps
unfolding further_of
further-joined qs ps = sym (take-append-drop (shared qs ps) ps) ∙ ap (λ (l : List ℕ). l ++ drop (shared qs ps) ps) (sym (shares qs ps).same)

pub further-is : (n : ℕ) (qs ps : List ℕ) → n ≤ length qs → Parts (drop n qs) ps → further_of qs (take n qs ++ ps) ≡ ps
unfolding further_of
further-is n qs ps inside parts = rw (shared-is n qs ps inside parts) (drop_at (take n qs) ps n (length-take-le n qs inside))
