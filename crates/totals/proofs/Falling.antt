-- What a fall does to the product of three numbers: along the axis the sum falls, the other two sums stay.
use Prim.Native.Nat.{ℕ, zero, suc, ◌*◌, ◌-◌, ◌<◌}
use mathlib.Core.Path.{◌≡◌, refl, ap, ap₂, ◌∙◌}
use mathlib.Core.Logic.{◌≢◌}
use mathlib.Core.Bool.{true}
use mathlib.Core.List.{List, [], ◌∷◌}
use native.Mathlib.Omega.{arith}
use lib.ListN.{get_or, set}
use lib.Seq.{get_or-set_other}
use Rattle.laws.proofs.Cases.{clash}
use Rattle.kind.specs.declared.Kind.TheVariants.{Moment}
use Rattle.steps.specs.declared.CentreName.{CentreName}
use Rattle.steps.specs.declared.CentreName.TheVariants.{A, B, C, D}
use Rattle.steps.specs.declared.Axis.{Axis}
use Rattle.steps.specs.declared.Axis.TheVariants.{X, Y, Z}
use Rattle.steps.specs.Choice.{order_place, order_of}
use Rattle.steps.specs.Steps.{less}
use Rattle.histories.specs.inner.OnTheWay.{own}
use Rattle.totals.specs.Totals.{along}

-- ---- one order less

same_place : (l : List ℕ) (i : ℕ) → get_or (set l i (get_or l i 0 - 1)) i 0 ≡ get_or l i 0 - 1
same_place [] i = refl
same_place (n ∷ l) zero = refl
same_place (n ∷ l) (suc i) = same_place l i

pub less-here : (left : List ℕ) (c : CentreName) (x : Axis) → order_of (less left c x) c x ≡ order_of left c x - 1
less-here left c x = same_place left (order_place c x)

pub less-there : (left : List ℕ) (c d : CentreName) (x y : Axis) → order_place d y ≢ order_place c x → order_of (less left c x) d y ≡ order_of left d y
less-there left c d x y ne = get_or-set_other left (order_place c x) (order_place d y) (order_of left c x - 1) 0 ne

-- ---- the sums

-- the centres that the sums look at are those of a moment
pub along-less : (left : List ℕ) (c : CentreName) (x : Axis) → own Moment c ≡ true → 0 < order_of left c x → along x (less left c x) ≡ along x left - 1
along-less left A x o h = let a = less-here left A x in let b = less-there left A B x x (omega arith) in let c = less-there left A C x x (omega arith) in omega arith
along-less left B x o h = let a = less-there left B A x x (omega arith) in let b = less-here left B x in let c = less-there left B C x x (omega arith) in omega arith
along-less left C x o h = let a = less-there left C A x x (omega arith) in let b = less-there left C B x x (omega arith) in let c = less-here left C x in omega arith
along-less left D x o h = absurd (clash (cc))

along-other : (left : List ℕ) (c : CentreName) (x y : Axis) → ((d : CentreName) → order_place d y ≢ order_place c x) → along y (less left c x) ≡ along y left
along-other left c x y ne = let a = less-there left c A x y (ne A) in let b = less-there left c B x y (ne B) in let o = less-there left c C x y (ne C) in omega arith

-- ---- the product

abbrev pub product : (ℕ → ℕ) → List ℕ → ℕ
product f left = f (along X left) * f (along Y left) * f (along Z left)

-- the numbers of the other two axes
abbrev pub others : (ℕ → ℕ) → Axis → List ℕ → ℕ
others f X left = f (along Y left) * f (along Z left)
others f Y left = f (along X left) * f (along Z left)
others f Z left = f (along X left) * f (along Y left)

pub at-axis : (f : ℕ → ℕ) (x : Axis) (left : List ℕ) → product f left ≡ f (along x left) * others f x left
at-axis f X left = omega arith
at-axis f Y left = omega arith
at-axis f Z left = omega arith

pub others-stay : (f : ℕ → ℕ) (x : Axis) (left : List ℕ) (c : CentreName) → others f x (less left c x) ≡ others f x left
others-stay f X left c = ap₂ (λ (m n : ℕ). f m * f n) (along-other left c X Y (λ (d : CentreName). omega arith)) (along-other left c X Z (λ (d : CentreName). omega arith))
others-stay f Y left c = ap₂ (λ (m n : ℕ). f m * f n) (along-other left c Y X (λ (d : CentreName). omega arith)) (along-other left c Y Z (λ (d : CentreName). omega arith))
others-stay f Z left c = ap₂ (λ (m n : ℕ). f m * f n) (along-other left c Z X (λ (d : CentreName). omega arith)) (along-other left c Z Y (λ (d : CentreName). omega arith))

-- of one order that falls
pub one-falls : (f : ℕ → ℕ) (left : List ℕ) (c : CentreName) (x : Axis) → own Moment c ≡ true → 0 < order_of left c x → product f (less left c x) ≡ f (along x left - 1) * others f x left
one-falls f left c x o h = at-axis f x (less left c x) ∙ ap₂ ◌*◌ (ap f (along-less left c x o h)) (others-stay f x left c)

-- of two that fall, counted so often as the multiplier says; where it is 0 nothing is counted, and nothing falls
pub two-fall : (f : ℕ → ℕ) (left : List ℕ) (c d : CentreName) (x : Axis) (times : ℕ) → own Moment c ≡ true → own Moment d ≡ true → 0 < order_of left c x → times ≡ order_of (less left c x) d x
    → times * product f (less (less left c x) d x) ≡ times * (f (along x left - 2) * others f x left)
two-fall f left c d x zero o p h e = omega arith
two-fall f left c d x (suc times) o p h e =
    ap (λ (v : ℕ). suc times * v) (one-falls f (less left c x) d x p (omega arith) ∙ ap₂ ◌*◌ (ap f twice) (others-stay f x left c))
  where
    twice : along x (less left c x) - 1 ≡ along x left - 2
    twice = let a = along-less left c x o h in omega arith
