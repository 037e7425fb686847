-- 01, "Numbers": the sums of the five get_ functions, over a list of terms.
use Rattle.std.specs.Prelude.{ℕ, zero, suc, ◌+◌, Bool, true, ◌&&◌, cond, List, [], ◌∷◌, leb, eqb, pos, Float, get_or}
use Rattle.std.specs.Float.{binary64}
use Rattle.std.specs.Float.Ieee.{of_int}
use Rattle.kind.specs.declared.Kind.{Kind}
use Rattle.kind.specs.declared.Kind.TheVariants.{Overlap, Kinetic, Nuclear, Moment, Coulomb}
use Rattle.kind.specs.Limits.{table_places}
use Rattle.term.specs.Terms.{Term}
use Rattle.geometry.specs.declared.Centre.{Centre}
use Rattle.geometry.specs.Floats.{◌⊕◌, ◌⊖◌, ◌⊗◌, ◌⊘◌, zero as 0·0, one, two, three, in_places}
use Rattle.geometry.specs.Geometry.{e_of, ab_of, exponent_sum}
use Rattle.geometry.specs.Tables.{prefac}
use Rattle.root.specs.Root.{root_of}

-- a term's scale as a float
abbrev pub scale_of : ℕ → Float
scale_of scale = of_int binary64 (pos scale)

-- F(order), of the host's Boys numbers
abbrev pub boys_number : List Float → ℕ → Float
boys_number boys order = get_or boys order 0·0

-- g is multiplied by the table's entries in listed order
unfoldable pub product_of : List Float → List ℕ → Float → Float
product_of table [] g = g
product_of table (p ∷ ps) g = product_of table ps (g ⊗ get_or table p 0·0)

-- no prefactor above 7
unfoldable pub stays_kinetic : List ℕ → Bool
stays_kinetic [] = true
stays_kinetic (p ∷ ps) = leb p 7 && stays_kinetic ps

-- e·(3.0−2.0·e·ab) (D-22)
unfoldable pub kinetic_start : Centre → Centre → Float
kinetic_start a b = e_of a b ⊗ (three ⊖ two ⊗ e_of a b ⊗ ab_of a b)

-- g starts at 1.0; a kinetic term with no prefactor above 7 starts at e·(3.0−2.0·e·ab) instead
unfoldable pub g_of : List Float → List ℕ → Float
g_of table ps = product_of table ps one

unfoldable pub kinetic_g : Float → List Float → List ℕ → Float
kinetic_g kinetic table ps = product_of table ps (cond (stays_kinetic ps) kinetic one)

-- what one term adds: scale·aux·g; nuclear scale·aux·g·F(order); Coulomb scale·b·g, with b = F(i)·s (D-23)
unfoldable pub plain_of : List Float → Float → Term → Float
plain_of table aux t = scale_of t.scale ⊗ aux ⊗ g_of table t.prefactors

unfoldable pub kinetic_of : Float → List Float → Float → Term → Float
kinetic_of kinetic table aux t = scale_of t.scale ⊗ aux ⊗ kinetic_g kinetic table t.prefactors

unfoldable pub nuclear_of : List Float → Float → List Float → Term → Float
nuclear_of table aux boys t = scale_of t.scale ⊗ aux ⊗ g_of table t.prefactors ⊗ boys_number boys t.boys

unfoldable pub coulomb_of : List Float → Float → Term → Float
coulomb_of table b t = scale_of t.scale ⊗ b ⊗ g_of table t.prefactors

-- the sum goes on in list order
unfoldable pub sum_from : (Term → Float) → List Term → Float → Float
sum_from adds [] sum = sum
sum_from adds (t ∷ ts) sum = sum_from adds ts (sum ⊕ adds t)

-- the terms of Boys order i, in list order
unfoldable pub of_order : ℕ → List Term → List Term
of_order i [] = []
of_order i (t ∷ ts) = cond (eqb t.boys i) (t ∷ of_order i ts) (of_order i ts)

-- Coulomb runs through so many i, and adds scale·(F(i)·s)·g for the terms of Boys order i
unfoldable pub run_orders : List Float → Float → List Float → List Term → ℕ → ℕ → Float → Float
run_orders table s boys ts zero i sum = sum
run_orders table s boys ts (suc left) i sum =
    run_orders table s boys ts left (suc i) (sum_from (coulomb_of table (boys_number boys i ⊗ s)) (of_order i ts) sum)

-- the sum starts at 0.0; Coulomb runs i from 0 to L (D-25)
unfoldable pub total_of : Kind → ℕ → Float → List Float → Float → List Float → List Term → Float
total_of Overlap l kinetic table aux boys ts = sum_from (plain_of table aux) ts 0·0
total_of Kinetic l kinetic table aux boys ts = sum_from (kinetic_of kinetic table aux) ts 0·0
total_of Nuclear l kinetic table aux boys ts = sum_from (nuclear_of table aux boys) ts 0·0
total_of Moment l kinetic table aux boys ts = sum_from (plain_of table aux) ts 0·0
total_of Coulomb l kinetic table s boys ts = run_orders table s boys ts (l + 1) 0 0·0

-- 02, Q-12: what stands in the sums for the host's aux. Coulomb's is k1·k2, and s is that divided by the root of the sum of exponents
unfoldable pub factor_of : Kind → Centre → Centre → Centre → Centre → Float → Float
factor_of Overlap a b c d aux = aux
factor_of Kinetic a b c d aux = aux
factor_of Nuclear a b c d aux = aux
factor_of Moment a b c d aux = aux
factor_of Coulomb a b c d aux = aux ⊘ root_of (exponent_sum a b c d)

-- with the table, the start and the factor that the centres give
unfoldable pub integral_of : Kind → ℕ → Centre → Centre → Centre → Centre → Float → List Float → List Term → Float
integral_of k l a b c d aux boys ts = total_of k l (kinetic_start a b) (in_places table_places (prefac k a b c d)) (factor_of k a b c d aux) boys ts
