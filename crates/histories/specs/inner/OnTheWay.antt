-- A state on the way from a request, and what holds of it.
use Rattle.std.specs.Prelude.{ℕ, ◌+◌, ◌*◌, ◌^◌, ◌≤◌, ◌<◌, ◌≡◌, Bool, true, false, eqb, leb, ltb, length, get_or}
use mathlib.Core.List.{List, Memᴰ}
use Rattle.laws.specs.Total.{total}
use Rattle.kind.specs.declared.Kind.{Kind}
use Rattle.kind.specs.declared.Kind.TheVariants.{Overlap, Kinetic, Nuclear, Moment, Coulomb}
use Rattle.kind.specs.Kinds.{table_of, uses_boys, number_of}
use Rattle.kind.specs.Limits.{most_order}
use Rattle.term.specs.Weights.{weights}
use Rattle.steps.specs.declared.CentreName.{CentreName}
use Rattle.steps.specs.Choice.{centre_number}
use Rattle.steps.specs.States.{State, start}
use Rattle.histories.specs.History.{depth}

-- what a term of a kind can go on as: itself, and kinetic as overlap
abbrev pub follows : Kind → Kind → Bool
follows Overlap k = eqb (number_of k) 0
follows Kinetic k = leb (number_of k) 1
follows Nuclear k = eqb (number_of k) 2
follows Moment k = eqb (number_of k) 3
follows Coulomb k = eqb (number_of k) 4

-- the centres that a kind has
abbrev pub own : Kind → CentreName → Bool
own Overlap c = ltb (centre_number c) 2
own Kinetic c = ltb (centre_number c) 2
own Nuclear c = ltb (centre_number c) 2
own Moment c = ltb (centre_number c) 3
own Coulomb c = true

-- no order is above the limit
unfoldable pub SmallOrders : List ℕ → Type 0
SmallOrders left = (i : ℕ) → get_or left i 0 ≤ most_order

-- what holds of a state on the way from a request
pub record Reached (request : Kind) (orders : List ℕ) (s : State) : Type 0 where
  pub followed : follows request s.kind ≡ true
  pub small : SmallOrders s.left
  pub weighed : weights request s.term.prefactors + total s.left ≡ total orders
  pub listed : (p : ℕ) → Memᴰ p s.term.prefactors → p < table_of request
  pub counted : length s.term.prefactors + depth s ≤ depth (start request orders)
  pub boys-most : s.term.boys + total s.left ≤ total orders
  pub boys-none : uses_boys request ≡ false → s.term.boys ≡ 0
  pub scale-least : 0 < s.term.scale
  pub scale-most : s.term.scale * s.term.scale * most_order ^ total s.left ≤ most_order ^ total orders
