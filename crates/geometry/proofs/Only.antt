-- One answer alone meets each public contract of this crate, and it is the definition's.
use Prim.Native.Nat.{ℕ}
use lib.Ieee.{Float}
use lib.Ieee.Scale.{finite}
use contract.Lifetimes.{Lfts}
use Rattle.kind.specs.declared.Kind.{Kind}
use Rattle.kind.specs.Limits.{table_places}
use Rattle.laws.proofs.Contract.{Alone, alone, Shown, ◌▸◌, end}
use Rattle.geometry.specs.declared.Centre.{Centre}
use Rattle.geometry.specs.declared.Point.{Point}
use Rattle.geometry.specs.Floats.{all_finite, in_places}
use Rattle.geometry.specs.Geometry.{point_of, bi_center, r12_squared, exponent_sum}
use Rattle.geometry.specs.Tables.{prefac}
use Rattle.geometry.specs.Charges.{charge_kept, charged}
use Rattle.geometry.specs.Checks.{used_finite, exponents_above_zero, finite_with, prefactor_table_of}
use Rattle.geometry.proofs.Centre.point.Reads.{Post as CentrePoint}
use Rattle.geometry.proofs.finite.Reads.{Post as Finite}
use Rattle.geometry.proofs.all_finite.Reads.{Post as AllFinite}
use Rattle.geometry.proofs.get_bi_center.Reads.{Post as GetBiCenter}
use Rattle.geometry.proofs.get_r12_squared.Reads.{Post as GetR12Squared}
use Rattle.geometry.proofs.exponent_sum.Reads.{Post as ExponentSum}
use Rattle.geometry.proofs.prefac.Reads.{Post as Prefac}
use Rattle.geometry.proofs.used_finite.Reads.{Post as UsedFinite}
use Rattle.geometry.proofs.exponents_above_zero.Reads.{Post as ExponentsAboveZero}
use Rattle.geometry.proofs.geometry_finite.Reads.{Post as GeometryFinite}
use Rattle.geometry.proofs.charge_kept.Reads.{Post as ChargeKept}
use Rattle.geometry.proofs.charged.Reads.{Post as Charged}
use Rattle.geometry.proofs.prefactors.Reads.{Post as Prefactors}

pub point-only : (c : Centre) → let g = c ▸ end in Alone (λ r. CentrePoint tt g r g) (point_of c)
point-only c = alone (λ r p. p)

pub finite-only : (x : Float) → let g = x ▸ end in Alone (λ r. Finite tt g r g) (finite x)
finite-only x = alone (λ r p. p)

pub all-finite-only : (κs : Lfts 1) (xs : Shown Float) → let g = xs ▸ end in Alone (λ r. AllFinite κs g r g) (all_finite xs.now)
all-finite-only κs xs = alone (λ r p. p)

pub get-bi-center-only : (z1 z2 : Float) (r1 r2 : Point) → let g = z1 ▸ z2 ▸ r1 ▸ r2 ▸ end in Alone (λ r. GetBiCenter tt g r g) (bi_center z1 z2 r1 r2)
get-bi-center-only z1 z2 r1 r2 = alone (λ r p. p)

pub get-r12-squared-only : (r1 r2 : Point) → let g = r1 ▸ r2 ▸ end in Alone (λ r. GetR12Squared tt g r g) (r12_squared r1 r2)
get-r12-squared-only r1 r2 = alone (λ r p. p)

pub exponent-sum-only : (a b c d : Centre) → let g = a ▸ b ▸ c ▸ d ▸ end in Alone (λ r. ExponentSum tt g r g) (exponent_sum a b c d)
exponent-sum-only a b c d = alone (λ r p. p)

module _ (k : Kind) (a b c d : Centre) where
  pub prefac-only : let g = k ▸ a ▸ b ▸ c ▸ d ▸ end in Alone (λ r. Prefac tt g r g) (in_places table_places (prefac k a b c d))
  prefac-only = alone (λ r p. p)

  pub used-finite-only : let g = k ▸ a ▸ b ▸ c ▸ d ▸ end in Alone (λ r. UsedFinite tt g r g) (used_finite k a b c d)
  used-finite-only = alone (λ r p. p)

  pub exponents-above-zero-only : let g = k ▸ a ▸ b ▸ c ▸ d ▸ end in Alone (λ r. ExponentsAboveZero tt g r g) (exponents_above_zero k a b c d)
  exponents-above-zero-only = alone (λ r p. p)

  pub geometry-finite-only : (κs : Lfts 1) (entries : Shown Float) →
      let g = k ▸ a ▸ b ▸ c ▸ d ▸ entries ▸ end in Alone (λ r. GeometryFinite κs g r g) (finite_with k a b c d entries.now)
  geometry-finite-only κs entries = alone (λ r p. p)

pub charge-kept-only : (k : Kind) (c : Centre) → let g = k ▸ c ▸ end in Alone (λ r. ChargeKept tt g r g) (charge_kept k c)
charge-kept-only k c = alone (λ r p. p)

pub charged-only : (k : Kind) (c : Centre) (x : Float) → let g = k ▸ c ▸ x ▸ end in Alone (λ r. Charged tt g r g) (charged k c x)
charged-only k c x = alone (λ r p. p)

pub prefactors-only : (kind : ℕ) (a b c d : Centre) → let g = kind ▸ a ▸ b ▸ c ▸ d ▸ end in Alone (λ r. Prefactors tt g r g) (prefactor_table_of kind a b c d)
prefactors-only kind a b c d = alone (λ r p. p)
