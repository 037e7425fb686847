-- The sum of a list: of two lists, from a place on, and beside one of its numbers.
use Prim.Native.Nat.{ℕ, zero, suc, ◌+◌, ◌-◌, ◌≤◌, ◌<◌}
use mathlib.Core.Path.{◌≡◌, refl}
use mathlib.Core.List.{List, [], ◌∷◌, ◌++◌}
use native.Mathlib.Numerals.{add-one, add-two, add-three}
use native.Mathlib.Omega.{arith}
use lib.ListN.{length, get_or, set, drop}
use Rattle.laws.specs.Total.{total}

pub total-append : (l m : List ℕ) → total (l ++ m) ≡ total l + total m
unfolding total
total-append [] m = omega arith
total-append (n ∷ l) m = let h = total-append l m in omega arith

pub total-last : (l : List ℕ) (n : ℕ) → total (l ++ (n ∷ [])) ≡ total l + n
unfolding total
total-last [] n = omega arith
total-last (x ∷ l) n = omega (arith, total-last l n)

pub total-drop : (l : List ℕ) (i : ℕ) → total (drop i l) ≡ get_or l i 0 + total (drop (suc i) l)
unfolding total
total-drop [] zero = refl
total-drop [] (suc i) = refl
total-drop (n ∷ l) zero = refl
total-drop (n ∷ l) (suc i) = total-drop l i

pub total-zero : (l : List ℕ) → ((i : ℕ) → get_or l i 0 ≡ 0) → total l ≡ 0
unfolding total
total-zero [] h = refl
total-zero (n ∷ l) h = let a = h 0 in let b = total-zero l (λ (i : ℕ). h (suc i)) in omega arith

pub get_or-le-total : (l : List ℕ) (i : ℕ) → get_or l i 0 ≤ total l
unfolding total
get_or-le-total [] i = omega arith
get_or-le-total (n ∷ ns) zero = omega arith
get_or-le-total (n ∷ ns) (suc i) = let h = get_or-le-total ns i in omega arith

-- a number above 0 stands inside
pub get_or-inside : (l : List ℕ) (i : ℕ) → 0 < get_or l i 0 → i < length l
get_or-inside [] i h = absurd (omega arith)
get_or-inside (n ∷ ns) zero h = omega arith
get_or-inside (n ∷ ns) (suc i) h = let k = get_or-inside ns i h in omega arith

-- one less at a place
pub total-less : (l : List ℕ) (i : ℕ) → 0 < get_or l i 0 → total (set l i (get_or l i 0 - 1)) + 1 ≡ total l
unfolding total
total-less [] i h = absurd (omega arith)
total-less (n ∷ ns) zero h = omega arith
total-less (n ∷ ns) (suc i) h = let k = total-less ns i h in omega arith

pub total-three : (l : List ℕ) (i : ℕ) → total (drop i l) ≡ get_or l i 0 + get_or l (i + 1) 0 + get_or l (i + 2) 0 + total (drop (i + 3) l)
total-three l i =
    let a = total-drop l i in
    let b = total-drop l (suc i) in
    let c = total-drop l (suc (suc i)) in
    simp (add-one, add-two, add-three) (omega arith)
