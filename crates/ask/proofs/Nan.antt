-- What is no NaN: a pattern that, its sign left out, is not above infinity's, and a float that equals itself.
use Prim.Native.Nat.{ℕ, ◌%◌, ◌/◌, ◌≤◌}
use native.Mathlib.Omega.{arith}
use mathlib.Core.Path.{◌≡◌, refl}
use mathlib.Core.Bool.{Bool, true, false, not, ◌&&◌}
use lib.Dec.{T, eqb}
use lib.Ieee.{Float, nan, inf, fin, eq, is_nan, binary64, nan_bits}
use borrow.Author.Tests.{eqb-true, eqb-false}
use Rattle.laws.proofs.Cases.{clash}

either : (p q : Bool) → (p ≡ true → q ≡ false → ⊥) → T (not (p && not q))
either true true h = tt
either true false h = h refl refl
either false q h = tt

pub below_nan : (b : ℕ) → b % 9223372036854775808 ≤ 9218868437227405312 → T (not (nan_bits binary64 b))
unfolding nan_bits
below_nan b h = either (eqb (b % 9223372036854775808 / 4503599627370496) 2047) (eqb (b % 4503599627370496) 0)
    (λ p q. let e : b % 9223372036854775808 / 4503599627370496 ≡ 2047 = eqb-true _ _ p in
    let n : b % 4503599627370496 ≡ 0 → ⊥ = eqb-false _ _ q in omega arith)

pub equals_itself : (x : Float) → eq x x ≡ true → T (not (is_nan x))
unfolding eq is_nan
equals_itself nan h = absurd (clash (cc))
equals_itself (inf s) h = tt
equals_itself (fin s m e) h = tt
