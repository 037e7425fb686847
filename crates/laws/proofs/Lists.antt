-- Lists of any crate: an array of one number, stores in a row, what stands from a place on.
use Prim.Native.Nat.{ℕ, zero, suc, ◌+◌, ◌-◌, ◌≤◌, ◌<◌}
use mathlib.Core.Path.{◌≡◌, refl, ap, sym, ◌∙◌}
use mathlib.Core.List.{List, [], ◌∷◌, ◌++◌, flatten, append_assoc, Memᴰ}
use native.Mathlib.Nat.{zero-add, add-zero, add-suc, suc-add, not-suc-le-zero}
use native.Mathlib.Numerals.{add-one, add-two}
use native.Mathlib.Omega.{arith}
use lib.ListN.{length, get_or, take, drop, replicate, set, length-replicate}
use lib.Seq.{sets, set_comm, take-nil, take-take, drop-cons, drop-drop, drop-append_seam}

-- an array that is made of one number has the length asked for: of no array in particular, so that nothing is counted
pub array-length : (n : ℕ) → n ≡ length {A = ℕ} (replicate n 0)
array-length n = sym (length-replicate n 0)

-- ---- stores

-- two lists put down one after the other are one
pub sets-append : (l : List ℕ) (i : ℕ) (xs ys : List ℕ) → sets l i (xs ++ ys) ≡ sets (sets l i xs) (i + length xs) ys
sets-append l i [] ys = ap (λ (k : ℕ). sets l k ys) (omega arith)
sets-append l i (x ∷ xs) ys = sets-append (set l i x) (suc i) xs ys ∙ ap (λ (k : ℕ). sets (sets (set l i x) (suc i) xs) k ys) (omega arith)

-- the last one may be stored first
pub sets_last : (l xs : List ℕ) (i b : ℕ) → sets (set l (i + length xs) b) i xs ≡ sets l i (xs ++ (b ∷ []))
sets_last l [] i b = rw (add-zero i)
sets_last l (x ∷ xs) i b =
    let e : i + suc (length xs) ≡ suc i + length xs = add-suc i (length xs) ∙ sym (suc-add i (length xs)) in
    ap (λ (m : List ℕ). sets m (suc i) xs) (set_comm l (i + suc (length xs)) i b x (λ q. omega (arith, q)))
    ∙ ap (λ (k : ℕ). sets (set (set l i x) k b) (suc i) xs) e
    ∙ sets_last (set l i x) xs (suc i) b

pub sets-three : (out : List ℕ) (at x y z : ℕ) → set (set (set out at x) (at + 1) y) (at + 2) z ≡ sets out at (x ∷ y ∷ z ∷ [])
sets-three out at x y z = rw (add-one at, add-two at)

-- ---- from a place on

pub drop_head : (s : List ℕ) (at b : ℕ) → at < length s → b ≡ get_or s at 0 → drop at s ≡ b ∷ drop (at + 1) s
drop_head s at b inside is = drop-cons s at 0 inside ∙ rw (add-one at, is)

pub drop-after : (s bytes rest : List ℕ) (at next : ℕ) → drop at s ≡ bytes ++ rest → next ≡ at + length bytes → drop next s ≡ rest
drop-after s bytes rest at next is after = rw (after, ← (drop-drop (length bytes) at s), is) (drop-append_seam bytes rest)

pub drop-then : (s xs ys : List ℕ) (at m n : ℕ) → drop at s ≡ xs ++ drop m s → drop m s ≡ ys ++ drop n s → drop at s ≡ (xs ++ ys) ++ drop n s
drop-then s xs ys at m n p q = p ∙ ap (λ (l : List ℕ). xs ++ l) q ∙ sym (append_assoc xs ys (drop n s))

-- ---- lists that begin alike

pub drop-take : (m n : ℕ) (l : List ℕ) → drop m (take (m + n) l) ≡ take n (drop m l)
drop-take zero n l = ap (λ (k : ℕ). take k l) (zero-add n)
drop-take (suc m) n [] = rw (take-nil n, suc-add m n)
drop-take (suc m) n (x ∷ l) = rw (suc-add m n) (drop-take m n l)

-- what begins as a list does up to a place, begins so up to every place before it
pub take_less : (s t : List ℕ) (m n : ℕ) → m ≤ n → take n t ≡ take n s → take m t ≡ take m s
take_less s t m n less alike = sym (take-take m n t less) ∙ ap (take m) alike ∙ take-take m n s less

pub take_head : (k b : ℕ) (l m : List ℕ) → take (suc k) m ≡ b ∷ take k l → (rest : List ℕ) × (m ≡ b ∷ rest) × (take k rest ≡ take k l)
take_head k b l [] e = absurd (omega (arith, ap length e))
take_head k b l (c ∷ rest) e = (rest, cc, cc)

-- ---- single places

-- without its first one, everything stands one place earlier
pub get_or-later : {A : Type 0} (l tail : List A) (x d : A) (i : ℕ) → l ≡ x ∷ tail → 0 < i → get_or l i d ≡ get_or tail (i - 1) d
get_or-later l tail x d zero e some = absurd (not-suc-le-zero some)
get_or-later l tail x d (suc i) e some = let less : suc i - 1 ≡ i = omega arith in rw (e, less)

-- what stands inside a list is one of its members
pub get_or-in : {A : Type 0} (l : List A) (i : ℕ) (d : A) → i < length l → Memᴰ (get_or l i d) l
get_or-in [] i d h = absurd (omega arith)
get_or-in (y ∷ l) zero d h = Memᴰ.head refl
get_or-in (y ∷ l) (suc i) d h = Memᴰ.tail (get_or-in l i d (omega arith))

pub length-zero : (l : List ℕ) → length l ≡ 0 → l ≡ []
length-zero [] e = refl
length-zero (x ∷ l) e = absurd (omega arith)

-- ---- lists of lists

pub flatten-append : (xs ys : List (List ℕ)) → flatten (xs ++ ys) ≡ flatten xs ++ flatten ys
unfolding flatten
flatten-append [] ys = refl
flatten-append (x ∷ xs) ys = ap (λ (l : List ℕ). x ++ l) (flatten-append xs ys) ∙ sym (append_assoc x (flatten xs) (flatten ys))
