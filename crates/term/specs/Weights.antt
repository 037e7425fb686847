-- 01, "Steps": the weight of a prefactor.
use Rattle.std.specs.Prelude.{ℕ, ◌+◌, Bool, true, false, List, [], ◌∷◌, ltb, eqb}
use Rattle.kind.specs.declared.Kind.{Kind}
use Rattle.kind.specs.declared.Kind.TheVariants.{Overlap, Kinetic, Nuclear, Moment, Coulomb}

abbrev pub one_or_two : Bool → ℕ
one_or_two true = 1
one_or_two false = 2

abbrev pub nothing_or : Bool → ℕ → ℕ
nothing_or true w = 0
nothing_or false w = w

-- prefactors below 6 (kinds 0, 1), 9 (2, 3), 18 (4) count one; kinetic 8 counts nothing; all others two
unfoldable pub weight : Kind → ℕ → ℕ
weight Overlap p = one_or_two (ltb p 6)
weight Kinetic p = nothing_or (eqb p 8) (one_or_two (ltb p 6))
weight Nuclear p = one_or_two (ltb p 9)
weight Moment p = one_or_two (ltb p 9)
weight Coulomb p = one_or_two (ltb p 18)

-- the weights of a term's prefactors together
unfoldable pub weights : Kind → List ℕ → ℕ
weights k [] = 0
weights k (p ∷ ps) = weight k p + weights k ps
