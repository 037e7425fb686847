-- 01, "Steps": the kinds and what each has of its own.
use Rattle.std.specs.Prelude.{ℕ, ◌+◌, ◌*◌, slice_get, Option, [], ◌∷◌, Bool, true, false}
use Rattle.kind.specs.declared.Kind.{Kind}
use Rattle.kind.specs.declared.Kind.TheVariants.{Overlap, Kinetic, Nuclear, Moment, Coulomb}
use Rattle.kind.specs.Limits.{most_order}

-- 0 overlap, 1 kinetic, 2 nuclear, 3 moment, 4 Coulomb
abbrev pub number_of : Kind → ℕ
number_of Overlap = 0
number_of Kinetic = 1
number_of Nuclear = 2
number_of Moment = 3
number_of Coulomb = 4

-- a kind by its number; there is none above 4
abbrev pub kind_of : ℕ → Option Kind
kind_of n = slice_get (Overlap ∷ Kinetic ∷ Nuclear ∷ Moment ∷ Coulomb ∷ []) n

-- orders stand by centre, x y z each: A, B; for moment then the operator; for Coulomb then C, D
abbrev pub orders_of : Kind → ℕ
orders_of Overlap = 6
orders_of Kinetic = 6
orders_of Nuclear = 6
orders_of Moment = 9
orders_of Coulomb = 12

-- L is the sum of all orders: at most 12 for kinds 0 to 2, 18 for kind 3, 24 for kind 4
abbrev pub most_l : Kind → ℕ
most_l Overlap = 2 * most_order
most_l Kinetic = 2 * most_order
most_l Nuclear = 2 * most_order
most_l Moment = 3 * most_order
most_l Coulomb = 4 * most_order

-- tables have 8, 11, 11, 12 and 23 entries
abbrev pub table_of : Kind → ℕ
table_of Overlap = 8
table_of Kinetic = 11
table_of Nuclear = 11
table_of Moment = 12
table_of Coulomb = 23

-- the branches that Steps has for a centre; the operator of a moment has two
abbrev pub branches_of : Kind → ℕ
branches_of Overlap = 3
branches_of Kinetic = 5
branches_of Nuclear = 6
branches_of Moment = 4
branches_of Coulomb = 8

-- prefactor count at most L; kinetic L+1
abbrev pub most_prefactors : Kind → ℕ → ℕ
most_prefactors Overlap l = l
most_prefactors Kinetic l = l + 1
most_prefactors Nuclear l = l
most_prefactors Moment l = l
most_prefactors Coulomb l = l

-- Boys orders and Boys numbers are for kinds 2 and 4
abbrev pub uses_boys : Kind → Bool
uses_boys Overlap = false
uses_boys Kinetic = false
uses_boys Nuclear = true
uses_boys Moment = false
uses_boys Coulomb = true
