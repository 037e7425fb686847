-- What the branches of a claimed kind add up to, where a state stands: one lowers the sum along the axis by one, for nuclear two do, the others lower it by two, with
-- multipliers that add up to one less than the sum, for nuclear each twice. So each multiplier times the product after its fall, added up, is the product before.
use Prim.Native.Nat.{ℕ, suc, ◌+◌, ◌*◌, ◌-◌, ◌<◌}
use mathlib.Core.Path.{◌≡◌, refl, sym, ◌∙◌}
use mathlib.Core.Bool.{true}
use mathlib.Core.List.{List, [], ◌∷◌, Memᴰ}
use native.Mathlib.Omega.{arith}
use Rattle.laws.proofs.Cases.{clash}
use Rattle.kind.specs.declared.Kind.{Kind}
use Rattle.kind.specs.declared.Kind.TheVariants.{Overlap, Kinetic, Nuclear, Moment, Coulomb}
use Rattle.kind.specs.Kinds.{orders_of}
use Rattle.steps.specs.declared.CentreName.{CentreName}
use Rattle.steps.specs.declared.CentreName.TheVariants.{A, B, C, D}
use Rattle.steps.specs.declared.Axis.{Axis}
use Rattle.steps.specs.declared.Axis.TheVariants.{X, Y, Z}
use Rattle.steps.specs.Choice.{order_place, order_of, sum_of, chosen}
use Rattle.steps.specs.Chosen.{RightCentre, a-centre, the-operator, no-centre, Exhausted}
use Rattle.steps.specs.Steps.{Branch, branches, times, less, lowered}
use Rattle.steps.proofs.Rightly.{chosen-rightly}
use Rattle.histories.specs.inner.OnTheWay.{own}
use Rattle.histories.proofs.Choices.{chosen-own}
use Rattle.histories.proofs.Some.{Unused}
use Rattle.totals.specs.Totals.{claimed, plain_list, nuclear_list, along, scale_total}
use Rattle.totals.proofs.Falling.{less-here, less-there, product, others, at-axis, one-falls, two-fall}
use Rattle.totals.proofs.Growing.{Grows, plain-grows, nuclear-grows}
use Rattle.std.specs.Prelude.{Option, Some}

-- each multiplier times what a number of the orders is after the fall
unfoldable pub branch_sum : (List ℕ → ℕ) → CentreName → Axis → List ℕ → List Branch → ℕ
branch_sum v c x left [] = 0
branch_sum v c x left (b ∷ bs) = times b.falls c x left * v (lowered b.falls c x left) + branch_sum v c x left bs

-- the number of the sum that is left, by the two before it
module _ (m : ℕ) (f : ℕ → ℕ) (grows : Grows m f) where
  by-two-before : (n rest q b o : ℕ) → n ≡ suc (q + b + o)
      → f n * rest ≡ m * (f (n - 1) * rest + (q * (f (n - 2) * rest) + b * (f (n - 2) * rest) + o * (f (n - 2) * rest)))
  by-two-before n rest q b o e = rw (e, one, two, grows.next (q + b + o)) (omega arith)
    where
      one : suc (q + b + o) - 1 ≡ q + b + o
      one = omega arith

      two : suc (q + b + o) - 2 ≡ q + b + o - 1
      two = omega arith

  -- the multipliers a − 1, b and o where a is the order of the chosen centre, b its partner's and o the operator's
  module _ (left : List ℕ) (c d o : CentreName) (x : Axis) (some : 0 < order_of left c x) (c-own : own Moment c ≡ true) (d-own : own Moment d ≡ true) (o-own : own Moment o ≡ true)
      (d-apart : order_of (less left c x) d x ≡ order_of left d x) (o-apart : order_of (less left c x) o x ≡ order_of left o x)
      (all : along x left ≡ order_of left c x + order_of left d x + order_of left o x) where
    falls-add-up : product f left
        ≡ m * (product f (less left c x)
        + ((order_of left c x - 1) * product f (less (less left c x) c x) + order_of left d x * product f (less (less left c x) d x) + order_of left o x * product f (less (less left c x) o x)))
    falls-add-up =
        let n = along x left in
        let rest = others f x left in
        let at = at-axis f x left in
        let by = by-two-before n rest (order_of left c x - 1) (order_of left d x) (order_of left o x) (omega arith) in
        let first = one-falls f left c x c-own some in
        let twice = two-fall f left c c x (order_of left c x - 1) c-own c-own some (sym (less-here left c x)) in
        let both = two-fall f left c d x (order_of left d x) c-own d-own some (sym d-apart) in
        let operator = two-fall f left c o x (order_of left o x) c-own o-own some (sym o-apart) in
        at ∙ rw (first, twice, both, operator) by

  module _ (left : List ℕ) (x : Axis) where
    abbrev after : CentreName → CentreName → ℕ
    after c d = product f (less (less left c x) d x)

    at_a : 0 < order_of left A x → product f left ≡ m * (product f (less left A x) + ((order_of left A x - 1) * after A A + order_of left B x * after A B + order_of left C x * after A C))
    at_a some = falls-add-up left A B C x some refl refl refl (less-there left A B x x (omega arith)) (less-there left A C x x (omega arith)) refl

    at_b : 0 < order_of left B x → product f left ≡ m * (product f (less left B x) + ((order_of left B x - 1) * after B B + order_of left A x * after B A + order_of left C x * after B C))
    at_b some = falls-add-up left B A C x some refl refl refl (less-there left B A x x (omega arith)) (less-there left B C x x (omega arith)) (omega arith)

    at-operator : 0 < order_of left C x → product f left ≡ m * (product f (less left C x) + ((order_of left C x - 1) * after C C + order_of left A x * after C A + order_of left B x * after C B))
    at-operator some = falls-add-up left C A B x some refl refl refl (less-there left C A x x (omega arith)) (less-there left C B x x (omega arith)) (omega arith)

-- ---- what is 0 where a centre is chosen

no-operator : (k : Kind) (left : List ℕ) (x : Axis) → orders_of k ≡ 6 → Unused k left → order_of left C x ≡ 0
unfolding Unused
no-operator k left x six unused = unused (order_place C x) (omega arith)

-- the operator is chosen only once A and B are exhausted
exhausted : (left : List ℕ) (v : Option CentreName) → RightCentre Moment left v → v ≡ Some C → Exhausted left (A ∷ B ∷ [])
exhausted left v (a-centre c s) e = absurd (neither c s.one-of-them (cc))
  where
    neither : (c : CentreName) → Memᴰ c (A ∷ B ∷ []) → c ≡ C → ⊥
    neither c (mathlib.Core.List.Memᴰ.tail (mathlib.Core.List.Memᴰ.tail x12)) g = elim x12 [ ]
    neither c (Memᴰ.head f) g = clash (cc)
    neither c (Memᴰ.tail (Memᴰ.head f)) g = clash (cc)
exhausted left v (the-operator o out s) e = out
exhausted left v (no-centre out rest) e = out

none-on : (left : List ℕ) (c : CentreName) (x : Axis) → sum_of left c ≡ 0 → order_of left c x ≡ 0
none-on left c X e = omega arith
none-on left c Y e = omega arith
none-on left c Z e = omega arith

none-times : (n v : ℕ) → n ≡ 0 → n * v ≡ 0
none-times n v e = rw e (omega arith)

module _ (left : List ℕ) (x : Axis) where
  pub branches-add-up : (k : Kind) (c : CentreName) → claimed k ≡ true → Unused k left → chosen k left ≡ Some c → 0 < order_of left c x
      → branch_sum (scale_total k) c x left (branches k c x) ≡ scale_total k left
  unfolding branches times lowered branch_sum scale_total
  branches-add-up Overlap A is unused e some =
      let h = at_a 1 plain_list plain-grows left x some in
      let z = none-times (order_of left C x) (after 1 plain_list plain-grows left x A C) (no-operator Overlap left x refl unused) in omega arith
  branches-add-up Overlap B is unused e some =
      let h = at_b 1 plain_list plain-grows left x some in
      let z = none-times (order_of left C x) (after 1 plain_list plain-grows left x B C) (no-operator Overlap left x refl unused) in omega arith
  branches-add-up Overlap C is unused e some = let o = chosen-own Overlap left C e in absurd (clash (cc))
  branches-add-up Overlap D is unused e some = let o = chosen-own Overlap left D e in absurd (clash (cc))
  branches-add-up Kinetic c is unused e some = absurd (clash (cc))
  branches-add-up Nuclear A is unused e some =
      let h = at_a 2 nuclear_list nuclear-grows left x some in
      let z = none-times (order_of left C x) (after 2 nuclear_list nuclear-grows left x A C) (no-operator Nuclear left x refl unused) in omega arith
  branches-add-up Nuclear B is unused e some =
      let h = at_b 2 nuclear_list nuclear-grows left x some in
      let z = none-times (order_of left C x) (after 2 nuclear_list nuclear-grows left x B C) (no-operator Nuclear left x refl unused) in omega arith
  branches-add-up Nuclear C is unused e some = let o = chosen-own Nuclear left C e in absurd (clash (cc))
  branches-add-up Nuclear D is unused e some = let o = chosen-own Nuclear left D e in absurd (clash (cc))
  branches-add-up Moment A is unused e some = let h = at_a 1 plain_list plain-grows left x some in omega arith
  branches-add-up Moment B is unused e some = let h = at_b 1 plain_list plain-grows left x some in omega arith
  branches-add-up Moment C is unused e some =
      let out = exhausted left (chosen Moment left) (chosen-rightly left Moment) e in
      let h = at-operator 1 plain_list plain-grows left x some in
      let y = none-times (order_of left A x) (after 1 plain_list plain-grows left x C A) (none-on left A x (out A (Memᴰ.head refl))) in
      let z = none-times (order_of left B x) (after 1 plain_list plain-grows left x C B) (none-on left B x (out B (Memᴰ.tail (Memᴰ.head refl)))) in omega arith
  branches-add-up Moment D is unused e some = let o = chosen-own Moment left D e in absurd (clash (cc))
  branches-add-up Coulomb c is unused e some = absurd (clash (cc))
