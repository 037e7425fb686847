-- How both lists go on, in one law: number n + 1 is m times the last and m times n times the one before, with m = 1, for nuclear 2.
use Prim.Native.Nat.{ℕ, zero, suc, ◌+◌, ◌*◌, ◌-◌}
use mathlib.Core.Path.{◌≡◌, refl, ◌∙◌}
use native.Mathlib.Omega.{arith}
use Rattle.totals.specs.Totals.{plain_list, nuclear_list}

pub record Grows (m : ℕ) (f : ℕ → ℕ) : Type 0 where
  pub first : f 0 ≡ 1
  pub next : (n : ℕ) → f (suc n) ≡ m * (f n + n * f (n - 1))

-- the same from number 2 on
pub next-two : (m : ℕ) (f : ℕ → ℕ) → Grows m f → (n : ℕ) → f (suc (suc n)) ≡ m * (f (suc n) + suc n * f n)
next-two m f grows n = let back : suc n - 1 ≡ n = omega arith in rw back at (grows.next (suc n))

plain-next : (n : ℕ) → plain_list (suc (suc n)) ≡ plain_list (suc n) + (suc (suc n) - 1) * plain_list n
unfolding plain_list
plain-next n = refl

nuclear-next : (n : ℕ) → nuclear_list (suc (suc n)) ≡ 2 * nuclear_list (suc n) + 2 * (suc (suc n) - 1) * nuclear_list n
unfolding nuclear_list
nuclear-next n = refl

plain-starts : (plain_list 0 ≡ 1) × (plain_list 1 ≡ 1)
unfolding plain_list
plain-starts = (refl, refl)

nuclear-starts : (nuclear_list 0 ≡ 1) × (nuclear_list 1 ≡ 2)
unfolding nuclear_list
nuclear-starts = (refl, refl)

pub plain-grows : Grows 1 plain_list
plain-grows = record { first = plain-starts.0; next = on }
  where
    on : (n : ℕ) → plain_list (suc n) ≡ 1 * (plain_list n + n * plain_list (n - 1))
    on zero = let s = plain-starts in omega arith
    on (suc n) = let p : suc (suc n) - 1 ≡ suc n = omega arith in let q : suc n - 1 ≡ n = omega arith in plain-next n ∙ rw (p, q) (omega arith)

pub nuclear-grows : Grows 2 nuclear_list
nuclear-grows = record { first = nuclear-starts.0; next = on }
  where
    on : (n : ℕ) → nuclear_list (suc n) ≡ 2 * (nuclear_list n + n * nuclear_list (n - 1))
    on zero = let s = nuclear-starts in omega arith
    on (suc n) = let p : suc (suc n) - 1 ≡ suc n = omega arith in let q : suc n - 1 ≡ n = omega arith in nuclear-next n ∙ rw (p, q) (omega arith)
