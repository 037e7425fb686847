-- What a kind has of its own, counted: its branches by the longest list of Steps, its orders by the places that Choice goes through.
use Prim.Native.Nat.{◌*◌, ◌≤◌}
use mathlib.Core.Path.{◌≡◌, refl}
use mathlib.Core.List.{◌++◌}
use native.Mathlib.Omega.{arith}
use lib.ListN.{length}
use Rattle.kind.specs.declared.Kind.{Kind}
use Rattle.kind.specs.declared.Kind.TheVariants.{Overlap, Kinetic, Nuclear, Moment, Coulomb}
use Rattle.kind.specs.Kinds.{orders_of, branches_of}
use Rattle.steps.specs.declared.CentreName.{CentreName}
use Rattle.steps.specs.declared.CentreName.TheVariants.{A, B, C, D}
use Rattle.steps.specs.declared.Axis.{Axis}
use Rattle.steps.specs.Chosen.{centres_of, operator_of}
use Rattle.steps.specs.Steps.{branches}

-- no list of branches is longer
pub branches-within : (k : Kind) (c : CentreName) (x : Axis) → length (branches k c x) ≤ branches_of k
unfolding branches
branches-within Overlap c x = omega arith
branches-within Kinetic c x = omega arith
branches-within Nuclear c x = omega arith
branches-within Moment A x = omega arith
branches-within Moment B x = omega arith
branches-within Moment C x = omega arith
branches-within Moment D x = omega arith
branches-within Coulomb c x = omega arith

-- and A has one that is as long
pub branches-reached : (k : Kind) (x : Axis) → length (branches k A x) ≡ branches_of k
unfolding branches
branches-reached Overlap x = refl
branches-reached Kinetic x = refl
branches-reached Nuclear x = refl
branches-reached Moment x = refl
branches-reached Coulomb x = refl

-- three orders for each centre, and three for the operator
pub orders-counted : (k : Kind) → orders_of k ≡ 3 * length (centres_of k ++ operator_of k)
orders-counted Overlap = refl
orders-counted Kinetic = refl
orders-counted Nuclear = refl
orders-counted Moment = refl
orders-counted Coulomb = refl
