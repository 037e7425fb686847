-- Orders and their total: what one step takes away.
use Prim.Native.Nat.{ℕ, ◌+◌, ◌-◌, ◌<◌}
use mathlib.Core.Path.{◌≡◌, subst}
use mathlib.Core.Bool.{Bool, true, false}
use mathlib.Core.Logic.{◌≢◌}
use mathlib.Core.List.{List}
use native.Mathlib.Omega.{arith}
use lib.Seq.{get_or-set_same, get_or-set_other}
use Rattle.std.specs.Prelude.{Option, Some}
use Rattle.laws.proofs.Cases.{clash}
use Rattle.steps.specs.declared.CentreName.{CentreName}
use Rattle.steps.specs.declared.CentreName.TheVariants.{A, B, C, D}
use Rattle.steps.specs.declared.Axis.{Axis}
use Rattle.steps.specs.Chosen.{RightAxis, along, no-axis}
use Rattle.steps.proofs.Rightly.{axis-rightly}
use Rattle.steps.specs.Choice.{order_place, order_of, operator, first_axis}
use Rattle.steps.specs.Steps.{Falls, a, a-twice, a-and-b, a-and-c, a-and-d, a-and-o, nothing, times, lowered, less, partner, other-c, other-d}
use Rattle.laws.specs.Total.{total}
use Rattle.laws.proofs.Totals.{get_or-inside, total-less}

-- how many orders fall
abbrev pub fallen : Falls → ℕ
fallen a = 1
fallen a-twice = 2
fallen a-and-b = 2
fallen a-and-c = 2
fallen a-and-d = 2
fallen a-and-o = 2
fallen nothing = 0

-- the operator does not fall together with itself
abbrev pub is_operator : CentreName → Bool
is_operator A = false
is_operator B = false
is_operator C = true
is_operator D = false

abbrev pub apart : Falls → CentreName → Bool
apart a c = true
apart a-twice c = true
apart a-and-b c = true
apart a-and-c c = true
apart a-and-d c = true
apart a-and-o A = true
apart a-and-o B = true
apart a-and-o C = false
apart a-and-o D = true
apart nothing c = true

module _ (left : List ℕ) (c d : CentreName) (x : Axis) (first : 0 < order_of left c x) where
  apart-total : order_place d x ≢ order_place c x → 0 < order_of left d x → total (less (less left c x) d x) + 2 ≡ total left
  apart-total ne second =
      let same : order_of (less left c x) d x ≡ order_of left d x = get_or-set_other left (order_place c x) (order_place d x) (order_of left c x - 1) 0 ne in
      let one = total-less (less left c x) (order_place d x) (rw same second) in
      let two = total-less left (order_place c x) first in
      omega arith

twice-total : (left : List ℕ) (c : CentreName) (x : Axis) → 0 < order_of left c x → 0 < order_of left c x - 1 → total (less (less left c x) c x) + 2 ≡ total left
twice-total left c x first second =
    let same : order_of (less left c x) c x ≡ order_of left c x - 1 = get_or-set_same left (order_place c x) (order_of left c x - 1) 0 (get_or-inside left (order_place c x) first) in
    let one = total-less (less left c x) (order_place c x) (rw same second) in
    let two = total-less left (order_place c x) first in
    omega arith

pub partner-apart : (c : CentreName) (x : Axis) → order_place (partner c) x ≢ order_place c x
partner-apart A x = omega arith
partner-apart B x = omega arith
partner-apart C x = omega arith
partner-apart D x = omega arith

pub other-c-apart : (c : CentreName) (x : Axis) → order_place (other-c c) x ≢ order_place c x
other-c-apart A x = omega arith
other-c-apart B x = omega arith
other-c-apart C x = omega arith
other-c-apart D x = omega arith

pub other-d-apart : (c : CentreName) (x : Axis) → order_place (other-d c) x ≢ order_place c x
other-d-apart A x = omega arith
other-d-apart B x = omega arith
other-d-apart C x = omega arith
other-d-apart D x = omega arith

pub operator-apart : (c : CentreName) (x : Axis) → apart a-and-o c ≡ true → order_place operator x ≢ order_place c x
operator-apart A x e = omega arith
operator-apart B x e = omega arith
operator-apart C x e = absurd (clash (cc))
operator-apart D x e = omega arith

pub lowered-total : (f : Falls) (c : CentreName) (x : Axis) (left : List ℕ) → apart f c ≡ true → 0 < order_of left c x → 0 < times f c x left → total (lowered f c x left) + fallen f ≡ total left
unfolding times lowered
lowered-total a c x left p h l = total-less left (order_place c x) h
lowered-total a-twice c x left p h l = twice-total left c x h l
lowered-total a-and-b c x left p h l = apart-total left c (partner c) x h (partner-apart c x) l
lowered-total a-and-c c x left p h l = apart-total left c (other-c c) x h (other-c-apart c x) l
lowered-total a-and-d c x left p h l = apart-total left c (other-d c) x h (other-d-apart c x) l
lowered-total a-and-o c x left p h l = apart-total left c operator x h (operator-apart c x p) l
lowered-total nothing c x left p h l = omega arith

-- the axis found has an order left
pub axis-positive : (left : List ℕ) (c : CentreName) (x : Axis) → first_axis left c ≡ Some x → 0 < order_of left c x
axis-positive left c x = by (first_axis left c) (axis-rightly left c)
  where
    by : (v : Option Axis) → RightAxis left c v → v ≡ Some x → 0 < order_of left c x
    by v (along y h before) e = let same : y ≡ x = cc in subst (λ (z : Axis). 0 < order_of left c z) same h
    by v (no-axis all) e = absurd (clash (cc))
