-- The bits of the root: what `root_bits` puts together is the definition's nearest root.
use mathlib.Core.Path.{◌≡◌, sym, ap, ◌∙◌}
use mathlib.Core.Bool.{Bool, true, false, cond}
use Prim.Native.Nat.{ℕ, ◌+◌, ◌-◌, ◌*◌, ◌^◌, ◌≤◌, ◌<◌}
use native.Mathlib.Nat.{mul_assoc, mul_comm, mul-mul-mul_comm}
use native.Mathlib.Omega.{arith}
use lib.Dec.{ltb}
use lib.Pow.{pow-add}
use lib.Ieee.{binary64, units, of_bits}
use Rattle.root.specs.declared.Part.{Part}
use Rattle.root.specs.declared.Scaled.{Scaled}
use Rattle.root.specs.Root.{units_in_one, rounded, nearest_root}
use Rattle.root.specs.inner.Digits.{hidden, infinite, RootTold, nearer, NearerTold, bits_units, ScaledTold, BitsTold}
use Rattle.root.proofs.Patterns.{units-bits}
use Rattle.root.proofs.Roots.{Digits, dropped-is, rounded-is}

-- the nearer number is the root, or the next
pub nearer-least : (p : Part) → hidden ≤ p.root → hidden ≤ nearer p
nearer-least p h = go (ltb p.root p.rest)
  where
    go : (t : Bool) → hidden ≤ cond t (p.root + 1) p.root
    go true = omega arith
    go false = h

pub nearer-most : (p : Part) → p.root < 2 * hidden → nearer p ≤ 2 * hidden
nearer-most p h = go (ltb p.root p.rest)
  where
    go : (t : Bool) → cond t (p.root + 1) p.root ≤ 2 * hidden
    go true = omega arith
    go false = omega arith

under-infinite : (h q : ℕ) → h ≤ 1600 → q ≤ 2 * hidden → (h - 26) * hidden + q < infinite
under-infinite h q a b = omega arith

module _ (b : ℕ) (s : Scaled) (p : Part) (S : ScaledTold (bits_units b * units_in_one) s) (P : RootTold s.digits p) where
  abbrev k : ℕ
  k = s.half - 26

  half_is : 2 ^ s.half ≡ 2 ^ k * 2 ^ 26
  half_is = ap (λ (z : ℕ). 2 ^ z) (omega (arith, S.from)) ∙ pow-add 2 k 26

  pub digits : Digits (bits_units b * units_in_one) k p
  digits = record {
    same =
        ap (λ (z : ℕ). z * (2 ^ k * 2 ^ k)) P.square
        ∙ mul_assoc s.digits hidden (2 ^ k * 2 ^ k)
        ∙ ap (λ (z : ℕ). s.digits * z) (mul_comm hidden (2 ^ k * 2 ^ k) ∙ sym (mul-mul-mul_comm (2 ^ k) (2 ^ 26) (2 ^ k) (2 ^ 26)) ∙ ap (λ (z : ℕ). z * z) (sym half_is))
        ∙ S.same;
    short = P.short;
    least = P.least;
    most = P.most;
  }

  pub root_is : units binary64 false (nearer p) k ≡ nearest_root (bits_units b)
  unfolding nearest_root
  root_is =
      ap (λ (z : ℕ). units binary64 false z k) (sym (rounded-is (bits_units b * units_in_one) k p digits))
      ∙ ap (λ (z : ℕ). units binary64 false (rounded (bits_units b * units_in_one)) z) (sym (dropped-is (bits_units b * units_in_one) k p digits))

  pub root-bits-told : (r : ℕ) → NearerTold p r → BitsTold b ((s.half - 26) * hidden + r)
  root-bits-told r t = record {
    root =
        ap (λ (z : ℕ). of_bits binary64 (k * hidden + z)) t.same
        ∙ units-bits (nearer p) k (nearer-least p P.least) (nearer-most p P.most) (omega (arith, S.upto))
        ∙ root_is;
    finite = under-infinite s.half r S.upto t.most;
  }
