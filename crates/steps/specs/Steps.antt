-- 01, "Steps": each branch of each kind on a line of its own, with its number, which is its place from 0.
use Rattle.std.specs.Prelude.{ℕ, ◌+◌, ◌*◌, ◌-◌, Bool, true, false, List, [], ◌∷◌, set}
use Rattle.kind.specs.declared.Kind.{Kind}
use Rattle.kind.specs.declared.Kind.TheVariants.{Overlap, Kinetic, Nuclear, Moment, Coulomb}
use Rattle.steps.specs.declared.CentreName.{CentreName}
use Rattle.steps.specs.declared.CentreName.TheVariants.{A, B, C, D}
use Rattle.steps.specs.declared.Axis.{Axis}
use Rattle.steps.specs.Choice.{centre_number, axis_number, operator, order_place, order_of}

-- what falls: a is the chosen centre, b its partner, o the operator
pub data Falls : Type 0 where
  a : Falls
  a-twice : Falls
  a-and-b : Falls
  a-and-c : Falls
  a-and-d : Falls
  a-and-o : Falls
  nothing : Falls

-- what falls, the prefactor added, what is added to the Boys order, whether the term goes on as overlap; the multiplier follows from what falls (`times` below)
pub record Branch : Type 0 where
  pub falls : Falls
  pub adds : ℕ
  pub raises : ℕ
  pub as-overlap : Bool

infix 70 ◌adds◌
infix 70 ◌adds-and-raises◌
infix 70 ◌adds-and-goes-on-as-overlap◌
abbrev pub ◌adds◌ : Falls → ℕ → Branch
f adds p = record { falls = f; adds = p; raises = 0; as-overlap = false }

abbrev pub ◌adds-and-raises◌ : Falls → ℕ → Branch
f adds-and-raises p = record { falls = f; adds = p; raises = 1; as-overlap = false }

abbrev pub ◌adds-and-goes-on-as-overlap◌ : Falls → ℕ → Branch
f adds-and-goes-on-as-overlap p = record { falls = f; adds = p; raises = 0; as-overlap = true }

-- P = 2·axis for A, one more for B
abbrev pub P : CentreName → Axis → ℕ
P c x = 2 * axis_number x + centre_number c

abbrev pub overlap : CentreName → Axis → List Branch
overlap c x =
    a adds P c x  -- 0
    ∷ a-twice adds 6  -- 1
    ∷ a-and-b adds 7  -- 2
    ∷ []

-- 9 for A, 10 for B
abbrev pub kinetic : CentreName → Axis → List Branch
kinetic c x =
    a adds P c x  -- 0
    ∷ a-twice adds 6  -- 1
    ∷ a-and-b adds 7  -- 2
    ∷ nothing adds-and-goes-on-as-overlap 8  -- 3
    ∷ a-twice adds-and-goes-on-as-overlap (9 + centre_number c)  -- 4
    ∷ []

abbrev pub nuclear : CentreName → Axis → List Branch
nuclear c x =
    a adds P c x  -- 0
    ∷ a adds-and-raises (6 + axis_number x)  -- 1
    ∷ a-twice adds 9  -- 2
    ∷ a-twice adds-and-raises 10  -- 3
    ∷ a-and-b adds 9  -- 4
    ∷ a-and-b adds-and-raises 10  -- 5
    ∷ []

abbrev pub moment : CentreName → Axis → List Branch
moment c x =
    a adds P c x  -- 0
    ∷ a-twice adds 9  -- 1
    ∷ a-and-b adds 10  -- 2
    ∷ a-and-o adds 11  -- 3
    ∷ []

-- on the operator, which is then the chosen centre a
abbrev pub moment-on-operator : Axis → List Branch
moment-on-operator x =
    a adds (6 + axis_number x)  -- 0
    ∷ a-twice adds 9  -- 1
    ∷ []

-- one more for C, D than for A, B
abbrev pub side : CentreName → ℕ
side A = 0
side B = 0
side C = 1
side D = 1

-- R = 6·axis + centre number
abbrev pub R : CentreName → Axis → ℕ
R c x = 6 * axis_number x + centre_number c

-- Q = 6·axis + 4 for A, B, + 5 for C, D
abbrev pub Q : CentreName → Axis → ℕ
Q c x = 6 * axis_number x + (4 + side c)

abbrev pub coulomb : CentreName → Axis → List Branch
coulomb c x =
    a adds R c x  -- 0
    ∷ a adds-and-raises Q c x  -- 1
    ∷ a-twice adds (18 + side c)  -- 2
    ∷ a-twice adds-and-raises (20 + side c)  -- 3
    ∷ a-and-b adds (18 + side c)  -- 4
    ∷ a-and-b adds-and-raises (20 + side c)  -- 5
    ∷ a-and-c adds-and-raises 22  -- 6
    ∷ a-and-d adds-and-raises 22  -- 7
    ∷ []

-- by what is chosen: A, B, or the operator in C's place; D never is
abbrev pub moments : CentreName → Axis → List Branch
moments A x = moment A x
moments B x = moment B x
moments C x = moment-on-operator x
moments D x = []

unfoldable pub branches : Kind → CentreName → Axis → List Branch
branches Overlap c x = overlap c x
branches Kinetic c x = kinetic c x
branches Nuclear c x = nuclear c x
branches Moment c x = moments c x
branches Coulomb c x = coulomb c x

-- its partner: A with B, C with D
abbrev pub partner : CentreName → CentreName
partner A = B
partner B = A
partner C = D
partner D = C

-- c, d are D, C when a is A or B, and B, A otherwise
abbrev pub other-c : CentreName → CentreName
other-c A = D
other-c B = D
other-c C = B
other-c D = B

abbrev pub other-d : CentreName → CentreName
other-d A = C
other-d B = C
other-d C = A
other-d D = A

-- the multiplier: 1, a−1, or the order left on the other centre
unfoldable pub times : Falls → CentreName → Axis → List ℕ → ℕ
times a c x left = 1
times a-twice c x left = order_of left c x - 1
times a-and-b c x left = order_of left (partner c) x
times a-and-c c x left = order_of left (other-c c) x
times a-and-d c x left = order_of left (other-d c) x
times a-and-o c x left = order_of left operator x
times nothing c x left = 1

-- one order less at a place
abbrev pub less : List ℕ → CentreName → Axis → List ℕ
less left c x = set left (order_place c x) (order_of left c x - 1)

unfoldable pub lowered : Falls → CentreName → Axis → List ℕ → List ℕ
lowered a c x left = less left c x
lowered a-twice c x left = less (less left c x) c x
lowered a-and-b c x left = less (less left c x) (partner c) x
lowered a-and-c c x left = less (less left c x) (other-c c) x
lowered a-and-d c x left = less (less left c x) (other-d c) x
lowered a-and-o c x left = less (less left c x) operator x
lowered nothing c x left = left
