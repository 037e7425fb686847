-- A matrix is filled place after place, each by the sum of its row and column.
use Prim.Native.Nat.{ℕ, zero, suc, ◌+◌, ◌*◌, ◌/◌, ◌%◌, ◌<◌, ◌≤◌}
use mathlib.Core.Path.{◌≡◌, refl, sym, ap, ◌∙◌}
use mathlib.Core.List.{List}
use native.Mathlib.Nat.{mul-add-div_right, mul-add-mod_self_right, div-eq_of_lt, mod-eq_of_lt, add-zero, zero-add, suc-add, add-suc, not-suc-le-zero, le_of_suc-le-suc}
use native.Mathlib.Omega.{arith}
use lib.Ieee.{Float, nan}
use lib.ListN.{length, get_or, take}
use lib.Seq.{get_or-take, length-take-le, ext_get_or}
use Rattle.laws.proofs.Counting.{place-below}
use Rattle.jk.specs.declared.Matrix.{Matrix}
use Rattle.jk.specs.Sums.{at2, entry_of, matrix_of, list_from}
use Rattle.jk.specs.inner.Rows.{ShapedMay, UpTo}
use Rattle.jk.proofs.Sizes.{square-small}

-- a place of the matrix has its row and its column
its-row : (n mu nu : ℕ) → mu < n → 0 < n → (nu * n + mu) / n ≡ nu
its-row n mu nu h k = mul-add-div_right k nu mu ∙ ap (λ (x : ℕ). nu + x) (div-eq_of_lt h) ∙ add-zero nu

its-column : (n mu nu : ℕ) → mu < n → (nu * n + mu) % n ≡ mu
its-column n mu nu h = mul-add-mod_self_right nu n mu ∙ mod-eq_of_lt h

-- the list of a function's values
length-list : (f : ℕ → Float) (left p : ℕ) → length (list_from f left p) ≡ left
unfolding list_from
length-list f zero p = refl
length-list f (suc left) p = ap suc (length-list f left (suc p))

get_or-list : (f : ℕ → Float) (left p q : ℕ) → q < left → get_or (list_from f left p) q nan ≡ f (p + q)
unfolding list_from
get_or-list f zero p q h = absurd (not-suc-le-zero h)
get_or-list f (suc left) p zero h = ap f (sym (add-zero p))
get_or-list f (suc left) p (suc q) h = get_or-list f left (suc p) q (le_of_suc-le-suc h) ∙ ap f (suc-add p q ∙ sym (add-suc p q))

pub all-stand : (m : Matrix) (n : ℕ) (i d done : List Float) (p : ℕ) → ShapedMay n i d → n * n ≤ p → UpTo m n i d done p → take (n * n) done ≡ matrix_of m n i d
unfolding matrix_of
all-stand m n i d done p s z f =
    let fits : n * n ≤ length done = omega (arith, f.room, square-small n s.small) in
    let long : length (take (n * n) done) ≡ n * n = length-take-le (n * n) done fits in
    ext_get_or nan (take (n * n) done) (list_from entry (n * n) 0) (long ∙ sym (length-list entry (n * n) 0))
    (λ (q : ℕ) (h : q < length (take (n * n) done)).
    let inside : q < n * n = omega arith in
    get_or-take (n * n) done q nan inside
    ∙ f.stands q (omega arith)
    ∙ sym (get_or-list entry (n * n) 0 q inside ∙ ap entry (zero-add q)))
  where
    entry : ℕ → Float
    entry q = entry_of m n i d (q / n) (q % n)

-- what stands in row mu and column nu of the matrix
pub entry_at : (m : Matrix) (n : ℕ) (i d : List Float) (mu nu : ℕ) → mu < n → nu < n → at2 n (matrix_of m n i d) mu nu ≡ entry_of m n i d mu nu
unfolding matrix_of
entry_at m n i d mu nu h k =
    let some : 0 < n = omega arith in
    get_or-list (λ (p : ℕ). entry_of m n i d (p / n) (p % n)) (n * n) 0 (mu * n + nu) (place-below n n mu nu h k)
    ∙ rw (zero-add (mu * n + nu), its-row n nu mu k some, its-column n nu mu k)

pub length-matrix : (m : Matrix) (n : ℕ) (i d xs : List Float) → xs ≡ matrix_of m n i d → length xs ≡ n * n
unfolding matrix_of
length-matrix m n i d xs e = ap length e ∙ length-list (λ (q : ℕ). entry_of m n i d (q / n) (q % n)) (n * n) 0
