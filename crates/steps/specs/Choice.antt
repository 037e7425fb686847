-- 01, "Steps": the centre and the axis that are chosen.
use Rattle.std.specs.Prelude.{ℕ, zero, suc, ◌+◌, ◌*◌, cond, List, [], ◌∷◌, get_or, ltb, Option, Some, None}
use Rattle.kind.specs.declared.Kind.{Kind}
use Rattle.kind.specs.declared.Kind.TheVariants.{Overlap, Kinetic, Nuclear, Moment, Coulomb}
use Rattle.steps.specs.declared.CentreName.{CentreName}
use Rattle.steps.specs.declared.CentreName.TheVariants.{A, B, C, D}
use Rattle.steps.specs.declared.Axis.{Axis}
use Rattle.steps.specs.declared.Axis.TheVariants.{X, Y, Z}
use Rattle.steps.specs.declared.Best.{Best}

-- centre number A 0 to D 3; the operator of a moment stands in C's place
abbrev pub centre_number : CentreName → ℕ
centre_number A = 0
centre_number B = 1
centre_number C = 2
centre_number D = 3

abbrev pub operator : CentreName
operator = C

-- axis (0, 1, 2)
abbrev pub axis_number : Axis → ℕ
axis_number X = 0
axis_number Y = 1
axis_number Z = 2

-- orders stand by centre, x y z each
abbrev pub order_place : CentreName → Axis → ℕ
order_place c x = 3 * centre_number c + axis_number x

abbrev pub order_of : List ℕ → CentreName → Axis → ℕ
order_of left c x = get_or left (order_place c x) 0

abbrev pub sum_of : List ℕ → CentreName → ℕ
sum_of left c = order_of left c X + order_of left c Y + order_of left c Z

-- the smallest positive sum, first on a tie: a centre stands before those after it, unless its sum is 0 or one of theirs is smaller
abbrev pub or_before : Option Best → CentreName → ℕ → Option Best
or_before later c zero = later
or_before None c (suc n) = Some (record { centre = c; sum = suc n })
or_before (Some b) c (suc n) = cond (ltb b.sum (suc n)) (Some b) (Some (record { centre = c; sum = suc n }))

abbrev pub smallest : List ℕ → List CentreName → Option Best
smallest left [] = None
smallest left (c ∷ cs) = or_before (smallest left cs) c (sum_of left c)

abbrev pub centre_of : Option Best → Option CentreName
centre_of None = None
centre_of (Some b) = Some b.centre

-- the operator is chosen only once A and B are exhausted
abbrev pub once_exhausted : Option CentreName → Option CentreName → Option CentreName
once_exhausted None other = other
once_exhausted (Some c) other = Some c

unfoldable pub chosen : Kind → List ℕ → Option CentreName
chosen Overlap left = centre_of (smallest left (A ∷ B ∷ []))
chosen Kinetic left = centre_of (smallest left (A ∷ B ∷ []))
chosen Nuclear left = centre_of (smallest left (A ∷ B ∷ []))
chosen Moment left = once_exhausted (centre_of (smallest left (A ∷ B ∷ []))) (centre_of (smallest left (operator ∷ [])))
chosen Coulomb left = centre_of (smallest left (A ∷ B ∷ C ∷ D ∷ []))

-- the first axis with a positive order left there
unfoldable pub first_axis : List ℕ → CentreName → Option Axis
first_axis left c =
    cond (ltb 0 (order_of left c X)) (Some X)
    (cond (ltb 0 (order_of left c Y)) (Some Y)
    (cond (ltb 0 (order_of left c Z)) (Some Z) None))
