-- What the walk writes: the terms below a state, and those from a branch number on.
use Rattle.std.specs.Prelude.{ℕ, ◌^◌, ◌≤◌, ◌<◌, ◌≡◌, true, List, get_or, drop, Option, Some, None}
use Rattle.kind.specs.declared.Kind.{Kind}
use Rattle.kind.specs.Limits.{most_l·any, request_orders}
use Rattle.term.specs.Terms.{Term}
use Rattle.steps.specs.declared.CentreName.{CentreName}
use Rattle.steps.specs.declared.Axis.{Axis}
use Rattle.steps.specs.Choice.{order_of, chosen, first_axis}
use Rattle.steps.specs.Steps.{branches}
use Rattle.steps.specs.States.{State, Next, start, step, turns}
use Rattle.steps.specs.inner.Packed.{orders, multiplier_word, no_branch}
use Rattle.histories.specs.History.{depth, in_turn, expand}
use Rattle.histories.specs.inner.OnTheWay.{Reached, own}
use Rattle.expansion.specs.declared.Path.{Path}
use Rattle.expansion.specs.declared.Child.{Child}
use Rattle.expansion.specs.declared.Lowered.{Lowered}
use Rattle.expansion.specs.inner.View.{path_term}
use Rattle.expansion.specs.inner.Sinks.{Sink, Room}

abbrev pub view_of : Kind → ℕ → Path → State
view_of k left p = record { kind = k; left = orders left; term = path_term p }

-- a state on the way from a request within the limits
pub record Good (k : Kind) (left : ℕ) (p : Path) : Type 0 where
  pub request : Kind
  pub request-orders : List ℕ
  pub reached : Reached request request-orders (view_of k left p)
  pub deep : depth (start request request-orders) ≤ most_l·any
  pub word : left < 16 ^ request_orders

-- a centre and an axis that are lowered, and the multipliers of the branches from a number on
pub record TurnMay (k : Kind) (left : ℕ) (c : CentreName) (x : Axis) (times number : ℕ) : Type 0 where
  pub own-centre : own k c ≡ true
  pub positive : 0 < order_of (orders left) c x
  pub few : number ≤ 8
  pub is : times ≡ multiplier_word c x (orders left) (drop number (branches k c x))

unfoldable pub terms_below : Kind → ℕ → Path → List Term
terms_below k left p = expand (view_of k left p)

unfoldable pub terms_from : Kind → ℕ → Path → CentreName → Axis → ℕ → List Term
terms_from k left p c x number = in_turn (λ (n : Next). expand n.state) (turns c x number (view_of k left p) (drop number (branches k c x)))

-- the centre and the axis that are chosen
abbrev pub lowering_along : CentreName → Option Axis → Option Lowered
lowering_along c None = None
lowering_along c (Some x) = Some (record { centre = c; axis = x })

abbrev pub lowering_of : Option CentreName → List ℕ → Option Lowered
lowering_of None left = None
lowering_of (Some c) left = lowering_along c (first_axis left c)

unfoldable pub lowering : Kind → List ℕ → Option Lowered
lowering k left = lowering_of (chosen k left) left

-- the state that a branch leads to, on the way from the same request and less deep
pub record ChildOf (k : Kind) (left : ℕ) (p : Path) (c : CentreName) (x : Axis) (number : ℕ) (r : Child) : Type 0 where
  pub good : Good r.kind r.left r.path
  pub is : view_of r.kind r.left r.path ≡ step (view_of k left p) c x (get_or (branches k c x) number no_branch)
  pub down : depth (view_of r.kind r.left r.path) < depth (view_of k left p)

pub record NodeMay (k : Kind) (left : ℕ) (p : Path) (s : Sink) : Type 0 where
  pub good : Good k left p
  pub room : Room s (terms_below k left p)

pub record BranchMay (k : Kind) (left : ℕ) (p : Path) (c : CentreName) (x : Axis) (times number : ℕ) (s : Sink) : Type 0 where
  pub good : Good k left p
  pub turn : TurnMay k left c x times number
  pub room : Room s (terms_from k left p c x number)
