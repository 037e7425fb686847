-- 02, Q-10: "other kinds ignore the charge", and no table has a charge in it: a centre's other numbers are the same with any charge.
use Prim.Native.Nat.{ℕ}
use mathlib.Core.Path.{◌≡◌, refl}
use mathlib.Core.Bool.{true, false}
use Rattle.std.specs.Prelude.{Option, Some, None}
use Rattle.kind.specs.declared.Kind.{Kind}
use Rattle.kind.specs.declared.Kind.TheVariants.{Overlap, Kinetic, Nuclear, Moment, Coulomb}
use Rattle.kind.specs.Kinds.{kind_of}
use Rattle.geometry.specs.declared.Centre.{Centre}
use Rattle.geometry.specs.Charges.{charge_kept}
use Rattle.geometry.specs.Geometry.{geometry_numbers}
use Rattle.geometry.specs.Tables.{entries_of, prefac}
use Rattle.geometry.specs.Checks.{whole, used, used_finite, exponents, exponents_above_zero, finite_with, geometry_finite, checked_table, named_table_of, prefactor_table_of}

-- a charge, 0 to 118
pub most-kept : (c : Centre) → c.charge ≡ 118 → charge_kept Nuclear c ≡ true
unfolding charge_kept
most-kept c is = rw is

pub next-refused : (c : Centre) → c.charge ≡ 119 → charge_kept Nuclear c ≡ false
unfolding charge_kept
next-refused c is = rw is

-- a centre with another charge
abbrev pub recharged : Centre → ℕ → Centre
recharged c q = record { x = c.x; y = c.y; z = c.z; exponent = c.exponent; charge = q }

module _ (a b c d : Centre) (p q r s : ℕ) where
  pub used-recharged : (k : Kind) → used_finite k (recharged a p) (recharged b q) (recharged c r) (recharged d s) ≡ used_finite k a b c d
  unfolding used_finite used whole
  used-recharged Overlap = refl
  used-recharged Kinetic = refl
  used-recharged Nuclear = refl
  used-recharged Moment = refl
  used-recharged Coulomb = refl

  pub exponents-recharged : (k : Kind) → exponents_above_zero k (recharged a p) (recharged b q) (recharged c r) (recharged d s) ≡ exponents_above_zero k a b c d
  unfolding exponents_above_zero exponents
  exponents-recharged Overlap = refl
  exponents-recharged Kinetic = refl
  exponents-recharged Nuclear = refl
  exponents-recharged Moment = refl
  exponents-recharged Coulomb = refl

  pub prefac-recharged : (k : Kind) → prefac k (recharged a p) (recharged b q) (recharged c r) (recharged d s) ≡ prefac k a b c d
  unfolding prefac entries_of
  prefac-recharged Overlap = refl
  prefac-recharged Kinetic = refl
  prefac-recharged Nuclear = refl
  prefac-recharged Moment = refl
  prefac-recharged Coulomb = refl

  numbers-recharged : (k : Kind) → geometry_numbers k (recharged a p) (recharged b q) (recharged c r) (recharged d s) ≡ geometry_numbers k a b c d
  unfolding geometry_numbers
  numbers-recharged Overlap = refl
  numbers-recharged Kinetic = refl
  numbers-recharged Nuclear = refl
  numbers-recharged Moment = refl
  numbers-recharged Coulomb = refl

  pub geometry-recharged : (k : Kind) → geometry_finite k (recharged a p) (recharged b q) (recharged c r) (recharged d s) ≡ geometry_finite k a b c d
  unfolding geometry_finite finite_with
  geometry-recharged k = rw (numbers-recharged k, prefac-recharged k)

  checked-recharged : (k : Kind) → checked_table k (recharged a p) (recharged b q) (recharged c r) (recharged d s) ≡ checked_table k a b c d
  unfolding checked_table
  checked-recharged k = rw (used-recharged k, exponents-recharged k, geometry-recharged k, prefac-recharged k)

  named-recharged : (n : Option Kind) → named_table_of n (recharged a p) (recharged b q) (recharged c r) (recharged d s) ≡ named_table_of n a b c d
  unfolding named_table_of
  named-recharged (Some k) = checked-recharged k
  named-recharged None = refl

  -- the table that is handed out, and its refusals
  pub table-recharged : (kind : ℕ) → prefactor_table_of kind (recharged a p) (recharged b q) (recharged c r) (recharged d s) ≡ prefactor_table_of kind a b c d
  unfolding prefactor_table_of
  table-recharged kind = named-recharged (kind_of kind)
