-- Nuclear and Coulomb have at least 2^L terms. Branches 0 and 1 of these kinds are always legal and lower one order each, so a state has
-- at least twice the terms of a state with one order less.
use Prim.Native.Nat.{ℕ, ◌+◌, ◌*◌, ◌^◌, ◌≤◌, ◌<◌}
use mathlib.Core.Path.{◌≡◌, refl, sym, ap, subst, ◌∙◌}
use mathlib.Core.Bool.{true}
use mathlib.Core.List.{List, ◌∷◌, ◌++◌, Memᴰ}
use native.Mathlib.Omega.{arith}
use native.Mathlib.Nat.{pow-suc}
use native.Mathlib.Numerals.{add-one}
use lib.ListN.{length, drop, length-append}
use Rattle.std.specs.Prelude.{Option, Some}
use Rattle.laws.proofs.Cases.{clash}
use Rattle.laws.specs.Total.{total}
use Rattle.laws.proofs.Totals.{total-less}
use Rattle.kind.specs.declared.Kind.{Kind}
use Rattle.kind.specs.declared.Kind.TheVariants.{Overlap, Kinetic, Nuclear, Moment, Coulomb}
use Rattle.kind.specs.Kinds.{orders_of, uses_boys}
use Rattle.term.specs.Terms.{Term}
use Rattle.steps.specs.declared.CentreName.{CentreName}
use Rattle.steps.specs.declared.Axis.{Axis}
use Rattle.steps.specs.Choice.{order_place, order_of, chosen, first_axis}
use Rattle.steps.specs.Steps.{a, ◌adds◌, ◌adds-and-raises◌, Branch, branches, times, lowered}
use Rattle.steps.specs.States.{State, Next, start, step, turns, on_axis, on_fun, nexts}
use Rattle.histories.specs.History.{in_turn, expand}
use Rattle.histories.proofs.Orders.{axis-positive}
use Rattle.histories.proofs.Nexts.{legal}
use Rattle.histories.proofs.Walk.{expand-more}
use Rattle.histories.proofs.Demand.{by-depth}
use Rattle.histories.proofs.Some.{Unused, unused-zero, unused-kept, some_next, some-term}

-- branches 0 and 1: multiplier 1, the chosen order falls, the kind stays
first_two : (k : Kind) (c : CentreName) (x : Axis) → uses_boys k ≡ true → (p q : ℕ) × (bs : List Branch) × (branches k c x ≡ (a adds p) ∷ (a adds-and-raises q) ∷ bs)
unfolding branches
first_two Overlap c x e = absurd (clash (cc))
first_two Kinetic c x e = absurd (clash (cc))
first_two Nuclear c x e = (_, _, _, refl)
first_two Moment c x e = absurd (clash (cc))
first_two Coulomb c x e = (_, _, _, refl)

-- a next state with one order less, of the same kind
record OneLess (s : State) (n : Next) : Type 0 where
  less : total n.state.left + 1 ≡ total s.left
  stays : n.state.kind ≡ s.kind

-- the next states begin with two such
record Twice (s : State) (ns : List Next) : Type 0 where
  one : Next
  two : Next
  more : List Next
  are : ns ≡ one ∷ two ∷ more
  one_less : OneLess s one
  two-less : OneLess s two

two-turns : (s : State) (c : CentreName) (x : Axis) (p q : ℕ) (bs : List Branch) → 0 < order_of s.left c x → Twice s (turns c x 0 s ((a adds p) ∷ (a adds-and-raises q) ∷ bs))
unfolding turns times lowered step
two-turns s c x p q bs h =
    record {
      one = _;
      two = _;
      more = _;
      are = refl;
      one_less = record { less = total-less s.left (order_place c x) h; stays = refl };
      two-less = record { less = total-less s.left (order_place c x) h; stays = refl };
    }

twice : (s : State) → uses_boys s.kind ≡ true → Unused s.kind s.left → (total s.left ≡ 0 → ⊥) → Twice s (nexts s)
unfolding nexts
twice s boys u some =
    let n = some_next s u some in
    let l = legal s n.0 n.1 in
    let b = first_two s.kind l.centre l.axis boys in
    subst (Twice s) (sym (at l.centre l.axis l.picked l.along ∙ ap (turns l.centre l.axis 0 s) b.3))
    (two-turns s l.centre l.axis b.0 b.1 b.2 (axis-positive s.left l.centre l.axis l.along))
  where
    at : (c : CentreName) (x : Axis) → chosen s.kind s.left ≡ Some c → first_axis s.left c ≡ Some x → nexts s ≡ turns c x 0 s (branches s.kind c x)
    at c x e f = ap (λ (v : Option CentreName). on_fun v s) e ∙ ap (λ (v : Option Axis). on_axis c v s) f

abbrev below : Next → List Term
below n = expand n.state

-- a state has the terms of both
both : (s : State) (t : Twice s (nexts s)) → (total s.left ≡ 0 → ⊥) → length (below t.one) + length (below t.two) ≤ length (expand s)
unfolding in_turn
both s t some =
    let all : length (expand s) ≡ length (below t.one ++ (below t.two ++ in_turn below t.more)) = ap length (expand-more s some ∙ ap (in_turn below) t.are) in
    let h = length-append (below t.one) (below t.two ++ in_turn below t.more) in
    let g = length-append (below t.two) (in_turn below t.more) in
    omega arith

abbrev pub Doubled : State → Type 0
Doubled s = uses_boys s.kind ≡ true → Unused s.kind s.left → 2 ^ total s.left ≤ length (expand s)

-- each has at least half of 2^L
half : (s : State) (n : Next) → Memᴰ n (nexts s) → OneLess s n → Doubled n.state → uses_boys s.kind ≡ true → Unused s.kind s.left → 2 ^ total s.left ≤ length (below n) * 2
half s n m o ih boys u =
    let h = ih (ap uses_boys o.stays ∙ boys) (unused-kept s n m u) in
    let p : 2 ^ total s.left ≡ 2 ^ total n.state.left * 2 = ap (λ (l : ℕ). 2 ^ l) (sym o.less ∙ add-one (total n.state.left)) ∙ pow-suc 2 (total n.state.left) in
    omega arith

-- of any state whose unused orders are 0
pub terms-double : (s : State) → Doubled s
terms-double =
    by-depth Doubled
    (λ (s : State) (e : total s.left ≡ 0) (boys : uses_boys s.kind ≡ true) (u : Unused s.kind s.left).
    let h = some-term s u in let p : 2 ^ total s.left ≡ 1 = ap (λ (l : ℕ). 2 ^ l) e in omega arith)
    (λ (s : State) (e : total s.left ≡ 0 → ⊥) (ih : (n : Next) → Memᴰ n (nexts s) → Doubled n.state) (boys : uses_boys s.kind ≡ true) (u : Unused s.kind s.left).
    let t = twice s boys u e in
    let first = subst (Memᴰ t.one) (sym t.are) (Memᴰ.head refl) in
    let second = subst (Memᴰ t.two) (sym t.are) (Memᴰ.tail (Memᴰ.head refl)) in
    let h = half s t.one first t.one_less (ih t.one first) boys u in
    let g = half s t.two second t.two-less (ih t.two second) boys u in
    let sum = both s t e in
    omega arith)

-- of a request, whose L is the sum of all orders
pub least-terms : (k : Kind) (orders : List ℕ) → uses_boys k ≡ true → total (drop (orders_of k) orders) ≡ 0 → 2 ^ total orders ≤ length (expand (start k orders))
least-terms k orders boys none = terms-double (start k orders) boys (unused-zero k orders none)
