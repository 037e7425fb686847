-- 01, "Limits and refusal numbers" and "Numbers": the checks 8, 9 and 11 of a kind's floats, and the prefactor table that is handed out.
use Rattle.std.specs.Prelude.{ℕ, Bool, List, [], ◌∷◌, ◌++◌, Float, Option, Some, None, Result, Ok, Err}
use Rattle.laws.specs.Unless.{unless}
use Rattle.kind.specs.declared.Kind.{Kind}
use Rattle.kind.specs.declared.Kind.TheVariants.{Overlap, Kinetic, Nuclear, Moment, Coulomb}
use Rattle.kind.specs.declared.refusals.Refusal.{Refusal}
use Rattle.kind.specs.declared.refusals.Refusal.TheVariants.{WrongKind, InputNotFinite, Exponent, ResultNotFinite}
use Rattle.kind.specs.Kinds.{kind_of}
use Rattle.kind.specs.Limits.{table_places}
use Rattle.geometry.specs.declared.Centre.{Centre}
use Rattle.geometry.specs.Floats.{all_finite, all_above_zero, in_places}
use Rattle.geometry.specs.Geometry.{point_of, coordinates, geometry_numbers}
use Rattle.geometry.specs.Tables.{prefac}

-- the four floats of a centre
unfoldable pub whole : Centre → List Float
whole c = c.x ∷ c.y ∷ c.z ∷ c.exponent ∷ []

-- kinds 0, 1 use A, B; 2, 3 also C's coordinates; 4 uses A to D (D-18)
unfoldable pub used : Kind → Centre → Centre → Centre → Centre → List Float
used Overlap a b c d = whole a ++ whole b
used Kinetic a b c d = whole a ++ whole b
used Nuclear a b c d = (whole a ++ whole b) ++ coordinates (point_of c)
used Moment a b c d = (whole a ++ whole b) ++ coordinates (point_of c)
used Coulomb a b c d = (whole a ++ whole b) ++ (whole c ++ whole d)

-- the exponents among them
unfoldable pub exponents : Kind → Centre → Centre → Centre → Centre → List Float
exponents Overlap a b c d = a.exponent ∷ b.exponent ∷ []
exponents Kinetic a b c d = a.exponent ∷ b.exponent ∷ []
exponents Nuclear a b c d = a.exponent ∷ b.exponent ∷ []
exponents Moment a b c d = a.exponent ∷ b.exponent ∷ []
exponents Coulomb a b c d = a.exponent ∷ b.exponent ∷ c.exponent ∷ d.exponent ∷ []

-- 8 unless every used float is finite
unfoldable pub used_finite : Kind → Centre → Centre → Centre → Centre → Bool
used_finite k a b c d = all_finite (used k a b c d)

-- 9 unless every used exponent is above 0
unfoldable pub exponents_above_zero : Kind → Centre → Centre → Centre → Centre → Bool
exponents_above_zero k a b c d = all_above_zero (exponents k a b c d)

-- 11 unless every geometry number and every table entry is finite (D-19, D-20)
unfoldable pub finite_with : Kind → Centre → Centre → Centre → Centre → List Float → Bool
finite_with k a b c d entries = all_finite (geometry_numbers k a b c d ++ entries)

unfoldable pub geometry_finite : Kind → Centre → Centre → Centre → Centre → Bool
geometry_finite k a b c d = finite_with k a b c d (prefac k a b c d)

-- a table in its places, or why there is none
abbrev pub Table : Type 0
Table = Result (List Float) Refusal

-- 8, 9, 11
unfoldable pub checked_table : Kind → Centre → Centre → Centre → Centre → Table
checked_table k a b c d =
    unless (used_finite k a b c d) (Err InputNotFinite)
    (unless (exponents_above_zero k a b c d) (Err Exponent)
    (unless (geometry_finite k a b c d) (Err ResultNotFinite)
    (Ok (in_places table_places (prefac k a b c d)))))

unfoldable pub named_table_of : Option Kind → Centre → Centre → Centre → Centre → Table
named_table_of (Some k) a b c d = checked_table k a b c d
named_table_of None a b c d = Err WrongKind

-- the prefactor table: 1, 8, 9, 11
unfoldable pub prefactor_table_of : ℕ → Centre → Centre → Centre → Centre → Table
prefactor_table_of kind a b c d = named_table_of (kind_of kind) a b c d
