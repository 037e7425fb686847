-- 01, "Steps", in other words: what a choice of centre and axis is, however it is worked out. proofs/Rightly shows it of Choice.
use Rattle.std.specs.Prelude.{ℕ, ◌≤◌, ◌<◌, ◌≡◌, Option, Some, None}
use mathlib.Core.List.{List, [], ◌∷◌, Memᴰ}
use Rattle.kind.specs.declared.Kind.{Kind}
use Rattle.kind.specs.declared.Kind.TheVariants.{Overlap, Kinetic, Nuclear, Moment, Coulomb}
use Rattle.steps.specs.declared.CentreName.{CentreName}
use Rattle.steps.specs.declared.CentreName.TheVariants.{A, B, C, D}
use Rattle.steps.specs.declared.Axis.{Axis}
use Rattle.steps.specs.Choice.{operator, centre_number, axis_number, order_of, sum_of}

-- the centres of a kind
abbrev pub centres_of : Kind → List CentreName
centres_of Overlap = A ∷ B ∷ []
centres_of Kinetic = A ∷ B ∷ []
centres_of Nuclear = A ∷ B ∷ []
centres_of Moment = A ∷ B ∷ []
centres_of Coulomb = A ∷ B ∷ C ∷ D ∷ []

-- the operator, where the kind has one
abbrev pub operator_of : Kind → List CentreName
operator_of Overlap = []
operator_of Kinetic = []
operator_of Nuclear = []
operator_of Moment = operator ∷ []
operator_of Coulomb = []

-- the centre with the smallest positive sum left, first on a tie
pub record Smallest (left : List ℕ) (centres : List CentreName) (c : CentreName) : Type 0 where
  pub one-of-them : Memᴰ c centres
  pub positive : 0 < sum_of left c
  pub none-smaller : (d : CentreName) → Memᴰ d centres → 0 < sum_of left d → sum_of left c ≤ sum_of left d
  pub none_before : (d : CentreName) → Memᴰ d centres → centre_number d < centre_number c → sum_of left d ≡ sum_of left c → ⊥

-- no orders are left on them
abbrev pub Exhausted : List ℕ → List CentreName → Type 0
Exhausted left centres = (d : CentreName) → Memᴰ d centres → sum_of left d ≡ 0

-- the operator is chosen only once A and B are exhausted; nothing is chosen only where no order is left
pub data RightCentre (k : Kind) (left : List ℕ) : Option CentreName → Type 0 where
  a-centre : (c : CentreName) → Smallest left (centres_of k) c → RightCentre k left (Some c)
  the-operator : (o : CentreName) → Exhausted left (centres_of k) → Smallest left (operator_of k) o → RightCentre k left (Some o)
  no-centre : Exhausted left (centres_of k) → Exhausted left (operator_of k) → RightCentre k left None

-- the first axis with a positive order left there
pub data RightAxis (left : List ℕ) (c : CentreName) : Option Axis → Type 0 where
  along : (x : Axis) → 0 < order_of left c x → ((y : Axis) → axis_number y < axis_number x → order_of left c y ≡ 0) → RightAxis left c (Some x)
  no-axis : ((y : Axis) → order_of left c y ≡ 0) → RightAxis left c None
