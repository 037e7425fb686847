-- 01, "Numbers": the geometry numbers, each as os86.rs writes it.
use Rattle.std.specs.Prelude.{List, [], ◌∷◌, ◌++◌, Float}
use Rattle.kind.specs.declared.Kind.{Kind}
use Rattle.kind.specs.declared.Kind.TheVariants.{Overlap, Kinetic, Nuclear, Moment, Coulomb}
use Rattle.geometry.specs.declared.Centre.{Centre}
use Rattle.geometry.specs.declared.Point.{Point}
use Rattle.geometry.specs.Floats.{◌⊕◌, ◌⊖◌, ◌⊗◌, ◌⊘◌, square}

-- a centre's coordinates (D-60)
abbrev pub point_of : Centre → Point
point_of c = record { x = c.x; y = c.y; z = c.z }

abbrev pub coordinates : Point → List Float
coordinates p = p.x ∷ p.y ∷ p.z ∷ []

-- get_bi_center
unfoldable pub bi_center : Float → Float → Point → Point → Point
bi_center z1 z2 r1 r2 =
    let z = z1 ⊕ z2 in
    record { x = (z1 ⊗ r1.x ⊕ z2 ⊗ r2.x) ⊘ z; y = (z1 ⊗ r1.y ⊕ z2 ⊗ r2.y) ⊘ z; z = (z1 ⊗ r1.z ⊕ z2 ⊗ r2.z) ⊘ z }

-- get_r12_squared
unfoldable pub r12_squared : Point → Point → Float
r12_squared r1 r2 = square (r1.x ⊖ r2.x) ⊕ square (r1.y ⊖ r2.y) ⊕ square (r1.z ⊖ r2.z)

-- of A and B; given C and D, z_of is n and rp_of is rq
abbrev pub z_of : Centre → Centre → Float
z_of a b = a.exponent ⊕ b.exponent

abbrev pub e_of : Centre → Centre → Float
e_of a b = a.exponent ⊗ b.exponent ⊘ (a.exponent ⊕ b.exponent)

abbrev pub ab_of : Centre → Centre → Float
ab_of a b = r12_squared (point_of a) (point_of b)

abbrev pub rp_of : Centre → Centre → Point
rp_of a b = bi_center a.exponent b.exponent (point_of a) (point_of b)

-- of A, B and C
abbrev pub pc_of : Centre → Centre → Centre → Float
pc_of a b c = r12_squared (rp_of a b) (point_of c)

abbrev pub u_of : Centre → Centre → Centre → Float
u_of a b c = z_of a b ⊗ pc_of a b c

-- of A, B, C and D
abbrev pub rw_of : Centre → Centre → Centre → Centre → Point
rw_of a b c d = bi_center (z_of a b) (z_of c d) (rp_of a b) (rp_of c d)

abbrev pub rho_of : Centre → Centre → Centre → Centre → Float
rho_of a b c d = z_of a b ⊗ z_of c d ⊘ (z_of a b ⊕ z_of c d)

abbrev pub t_of : Centre → Centre → Centre → Centre → Float
t_of a b c d = rho_of a b c d ⊗ r12_squared (rp_of a b) (rp_of c d)

-- 02, Q-12: the sum of exponents, as get_aux adds them; it counts as a geometry number (D-115)
abbrev pub exponent_sum : Centre → Centre → Centre → Centre → Float
exponent_sum a b c d = ((a.exponent ⊕ b.exponent) ⊕ c.exponent) ⊕ d.exponent

-- kinds 0 and 1: z, e, ab, rp
abbrev pub pair_numbers : Centre → Centre → List Float
pair_numbers a b = z_of a b ∷ e_of a b ∷ ab_of a b ∷ coordinates (rp_of a b)

-- kind 2: z, rp, pc, u
abbrev pub nuclear_numbers : Centre → Centre → Centre → List Float
nuclear_numbers a b c = z_of a b ∷ coordinates (rp_of a b) ++ (pc_of a b c ∷ u_of a b c ∷ [])

-- kind 3: z, rp
abbrev pub moment_numbers : Centre → Centre → List Float
moment_numbers a b = z_of a b ∷ coordinates (rp_of a b)

-- kind 4: z, n, rp, rq, rw, rho, t, and the sum of exponents (02, Q-12)
abbrev pub coulomb_numbers : Centre → Centre → Centre → Centre → List Float
coulomb_numbers a b c d =
    z_of a b ∷ z_of c d ∷ coordinates (rp_of a b) ++ coordinates (rp_of c d) ++ coordinates (rw_of a b c d) ++ (rho_of a b c d ∷ t_of a b c d ∷ exponent_sum a b c d ∷ [])

unfoldable pub geometry_numbers : Kind → Centre → Centre → Centre → Centre → List Float
geometry_numbers Overlap a b c d = pair_numbers a b
geometry_numbers Kinetic a b c d = pair_numbers a b
geometry_numbers Nuclear a b c d = nuclear_numbers a b c
geometry_numbers Moment a b c d = moment_numbers a b
geometry_numbers Coulomb a b c d = coulomb_numbers a b c d
