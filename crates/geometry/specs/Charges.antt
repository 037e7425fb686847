-- 02, Q-10: a charge is kept with each centre, 0 to 118 as a whole number. Only a nucleus' charge is looked at; other kinds ignore the charge.
use Rattle.std.specs.Prelude.{ℕ, Bool, true, leb, pos, Float}
use Rattle.std.specs.Float.{binary64}
use Rattle.std.specs.Float.Ieee.{of_int}
use Rattle.kind.specs.declared.Kind.{Kind}
use Rattle.kind.specs.declared.Kind.TheVariants.{Overlap, Kinetic, Nuclear, Moment, Coulomb}
use Rattle.geometry.specs.declared.Centre.{Centre}
use Rattle.geometry.specs.Floats.{◌⊗◌}

-- the highest charge of a nucleus
abbrev pub most_charge : ℕ
most_charge = 118

-- the charge as f64
abbrev pub charge_of : Centre → Float
charge_of c = of_int binary64 (pos c.charge)

-- 17 unless the nucleus' charge is 118 at most (D-106)
unfoldable pub charge_kept : Kind → Centre → Bool
charge_kept Overlap c = true
charge_kept Kinetic c = true
charge_kept Nuclear c = leb c.charge most_charge
charge_kept Moment c = true
charge_kept Coulomb c = true

-- the nuclear value is the charge as f64 times the old value
unfoldable pub charged : Kind → Centre → Float → Float
charged Overlap c x = x
charged Kinetic c x = x
charged Nuclear c x = charge_of c ⊗ x
charged Moment c x = x
charged Coulomb c x = x
