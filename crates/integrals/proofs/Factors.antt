-- 02, Q-12: "The host then gives the product k1·k2 and the library divides." Coulomb's s is that quotient, and nothing else of an evaluation has changed.
use Prim.Native.Nat.{ℕ}
use mathlib.Core.Path.{◌≡◌, refl}
use mathlib.Core.List.{List}
use lib.Ieee.{Float, binary64, units, add, div, of_bits, to_bits}
use lib.ListN.{length}
use Rattle.kind.specs.declared.Kind.{Kind}
use Rattle.kind.specs.declared.Kind.TheVariants.{Overlap, Kinetic, Nuclear, Moment, Coulomb}
use Rattle.kind.specs.Limits.{table_places}
use Rattle.kind.specs.declared.refusals.Refusal.TheVariants.{InputNotFinite, Exponent, BoysCount, ResultNotFinite, Nuclei}
use Rattle.term.specs.Terms.{Term}
use Rattle.geometry.specs.declared.Centre.{Centre}
use Rattle.geometry.specs.Floats.{◌⊕◌, ◌⊘◌, zero as 0·0, in_places}
use Rattle.geometry.specs.Geometry.{exponent_sum}
use Rattle.geometry.specs.Tables.{prefac}
use Rattle.geometry.specs.Charges.{charge_kept, charged}
use Rattle.geometry.specs.Checks.{exponents_above_zero, geometry_finite}
use Rattle.root.specs.Root.{root_digits, whole_root, dropped, kept, rounded, nearest_root, root_of}
use Rattle.integrals.specs.Sums.{kinetic_start, total_of, factor_of, integral_of}
use Rattle.integrals.specs.Values.{inputs_finite, boys_counted, Value, refused_unless, result_of, value_of}

pub factor-divided : (k : Kind) (a b c d : Centre) (aux sum root : Float) → k ≡ Coulomb → sum ≡ exponent_sum a b c d → root ≡ root_of sum → aux ⊘ root ≡ factor_of k a b c d aux
unfolding factor_of
factor-divided k a b c d aux sum root is e f = rw (f, e, is)

-- every kind but Coulomb has aux itself
pub factor-kept : (k : Kind) (a b c d : Centre) (aux : Float) → (k ≡ Coulomb → ⊥) → factor_of k a b c d aux ≡ aux
unfolding factor_of
factor-kept Overlap a b c d aux other = refl
factor-kept Kinetic a b c d aux other = refl
factor-kept Nuclear a b c d aux other = refl
factor-kept Moment a b c d aux other = refl
factor-kept Coulomb a b c d aux other = absurd (other refl)

-- the value of a sum, whatever stands in it for aux; before 02, Q-12 that was aux for every kind
abbrev pub value_with : Float → Kind → ℕ → Centre → Centre → Centre → Centre → Float → List Float → List Term → Value
value_with s k l a b c d aux boys ts =
    refused_unless (charge_kept k c) Nuclei
    (refused_unless (inputs_finite k a b c d aux boys) InputNotFinite
    (refused_unless (exponents_above_zero k a b c d) Exponent
    (refused_unless (boys_counted k l (length boys)) BoysCount
    (refused_unless (geometry_finite k a b c d) ResultNotFinite
    (result_of (charged k c (total_of k l (kinetic_start a b) (in_places table_places (prefac k a b c d)) s boys ts)))))))

module _ (l : ℕ) (a b c d : Centre) (aux : Float) (boys : List Float) (ts : List Term) where
  -- every kind but Coulomb is evaluated as before
  pub others-value : (k : Kind) → (k ≡ Coulomb → ⊥) → value_of k l a b c d aux boys ts ≡ value_with aux k l a b c d aux boys ts
  unfolding value_of integral_of
  others-value k other = rw (factor-kept k a b c d aux other)

  abbrev quotient : Float
  quotient = aux ⊘ root_of (((a.exponent ⊕ b.exponent) ⊕ c.exponent) ⊕ d.exponent)

  -- and Coulomb as before with the quotient for s
  pub coulomb-total : integral_of Coulomb l a b c d aux boys ts ≡ total_of Coulomb l (kinetic_start a b) (in_places table_places (prefac Coulomb a b c d)) quotient boys ts
  unfolding integral_of factor_of
  coulomb-total = refl

  pub coulomb-value : value_of Coulomb l a b c d aux boys ts ≡ value_with quotient Coulomb l a b c d aux boys ts
  unfolding value_of integral_of factor_of
  coulomb-value = refl

-- ---- worked out, by the bits of the four exponents and of k1·k2

abbrev centre : ℕ → Centre
centre z = record { x = 0·0; y = 0·0; z = 0·0; exponent = of_bits binary64 z; charge = 0 }

abbrev worked : ℕ → ℕ → ℕ → ℕ → ℕ → ℕ
worked za zb zc zd aux = to_bits binary64 (factor_of Coulomb (centre za) (centre zb) (centre zc) (centre zd) (of_bits binary64 aux))

-- four of 1.0, and 1.0: divided by 2.0
four-ones : worked 0x3ff0_0000_0000_0000 0x3ff0_0000_0000_0000 0x3ff0_0000_0000_0000 0x3ff0_0000_0000_0000 0x3ff0_0000_0000_0000 ≡ 0x3fe0_0000_0000_0000
unfolding factor_of to_bits of_bits add div root_of nearest_root dropped kept rounded whole_root root_digits units
four-ones = refl

-- 0.1, 0.1, 0.7 and 0.1, and 1.0: the sum is the f64 before 1.0, where z + n is 1.0 itself
tenths : worked 0x3fb9_9999_9999_999a 0x3fb9_9999_9999_999a 0x3fe6_6666_6666_6666 0x3fb9_9999_9999_999a 0x3ff0_0000_0000_0000 ≡ 0x3ff0_0000_0000_0001
unfolding factor_of to_bits of_bits add div root_of nearest_root dropped kept rounded whole_root root_digits units
tenths = refl
