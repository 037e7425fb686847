-- The theorem of Q-11, of any state on the way: the scales of its terms add up to its own scale times the product of its three numbers. By induction over the walk: the terms of a
-- state are those of its next states, whose scales and products are what the branches add up to (Branching).
use Prim.Native.Nat.{ℕ, zero, suc, ◌+◌, ◌*◌}
use mathlib.Core.Path.{◌≡◌, refl, ap, ap₂, ◌∙◌}
use mathlib.Core.Bool.{Bool, true, false, cond}
use mathlib.Core.List.{List, [], ◌∷◌, map, map-append, Memᴰ}
use native.Mathlib.Omega.{arith}
use Rattle.laws.specs.Total.{total}
use Rattle.laws.proofs.Cases.{clash}
use Rattle.laws.proofs.Totals.{total-append, get_or-le-total}
use Rattle.kind.specs.declared.Kind.{Kind}
use Rattle.kind.specs.declared.Kind.TheVariants.{Overlap, Kinetic, Nuclear, Moment, Coulomb}
use Rattle.term.specs.Terms.{Term}
use Rattle.steps.specs.declared.CentreName.{CentreName}
use Rattle.steps.specs.declared.CentreName.TheVariants.{A, B, C}
use Rattle.steps.specs.declared.Axis.{Axis}
use Rattle.steps.specs.declared.Axis.TheVariants.{X, Y, Z}
use Rattle.steps.specs.Choice.{order_place, chosen, first_axis}
use Rattle.steps.specs.Steps.{Branch, branches, times, lowered}
use Rattle.steps.specs.States.{State, Next, start, step, if_legal, turns, on_axis, on_fun, nexts}
use Rattle.histories.specs.History.{in_turn, expand}
use Rattle.histories.specs.inner.OnTheWay.{follows}
use Rattle.histories.proofs.Orders.{axis-positive}
use Rattle.histories.proofs.Nexts.{legal}
use Rattle.histories.proofs.Walk.{follows_itself, fair-step, expand-done, expand-more}
use Rattle.histories.proofs.Demand.{by-depth}
use Rattle.histories.proofs.Some.{Unused, unused-zero, unused-kept, some_next}
use Rattle.roll.specs.Before.{scales}
use Rattle.totals.specs.Totals.{scale_sum, claimed, along, scale_total}
use Rattle.totals.specs.ByHand.{TotalByHand}
use Rattle.totals.proofs.Growing.{plain-grows, nuclear-grows}
use Rattle.totals.proofs.Branching.{branch_sum, branches-add-up}
use Rattle.std.specs.Prelude.{Option, Some}

-- a scale times a number of the orders that are left
abbrev weighed : (List ℕ → ℕ) → Next → ℕ
weighed v n = n.state.term.scale * v n.state.left

-- the next states give what all branches do: one that is not legal is counted 0 times
turns-sum : (v : List ℕ → ℕ) (c : CentreName) (x : Axis) (k : ℕ) (s : State) (bs : List Branch) → total (map (weighed v) (turns c x k s bs)) ≡ s.term.scale * branch_sum v c x s.left bs
unfolding turns branch_sum total step
turns-sum v c x k s [] = omega arith
turns-sum v c x k s (b ∷ bs) = by-times (times b.falls c x s.left) refl (turns-sum v c x (suc k) s bs)
  where
    by-times : (t : ℕ) → times b.falls c x s.left ≡ t → total (map (weighed v) (turns c x (suc k) s bs)) ≡ s.term.scale * branch_sum v c x s.left bs
        → total (map (weighed v) (if_legal t (record { number = k; state = step s c x b }) (turns c x (suc k) s bs)))
        ≡ s.term.scale * (times b.falls c x s.left * v (lowered b.falls c x s.left) + branch_sum v c x s.left bs)
    by-times zero e ih = ih ∙ rw e (omega arith)
    by-times (suc t) e ih = omega arith

-- the scales of all that the next states give
each : (g : Next → ℕ) (ns : List Next) → ((n : Next) → Memᴰ n ns → scale_sum (expand n.state) ≡ g n) → scale_sum (in_turn (λ (n : Next). expand n.state) ns) ≡ total (map g ns)
unfolding in_turn total
each g [] h = refl
each g (n ∷ ns) h =
    ap total (map-append (λ (t : Term). t.scale) (expand n.state) (in_turn (λ (m : Next). expand m.state) ns))
    ∙ total-append (scales (expand n.state)) (scales (in_turn (λ (m : Next). expand m.state) ns))
    ∙ ap₂ ◌+◌ (h n (Memᴰ.head refl)) (each g ns (λ (m : Next) (i : Memᴰ m ns). h m (Memᴰ.tail i)))

-- a claimed kind stays what it is
stays : (k : Kind) (v : Bool) → claimed k ≡ true → follows k (cond v Overlap k) ≡ true → cond v Overlap k ≡ k
stays Overlap true is f = refl
stays Kinetic true is f = absurd (clash (cc))
stays Nuclear true is f = absurd (clash (cc))
stays Moment true is f = absurd (clash (cc))
stays Coulomb true is f = absurd (clash (cc))
stays k false is f = refl

kind-stays : (s : State) (n : Next) → Memᴰ n (nexts s) → claimed s.kind ≡ true → n.state.kind ≡ s.kind
unfolding step
kind-stays s n m is =
    let l = legal s n m in
    ap (λ (t : State). t.kind) l.turn.is ∙ stays s.kind l.turn.branch.as-overlap is (fair-step s.kind s n l (follows_itself s.kind)).goes_on

-- with no order left each of the three numbers is the list's first
ones : (k : Kind) (left : List ℕ) → claimed k ≡ true → total left ≡ 0 → scale_total k left ≡ 1
unfolding scale_total
ones k left is none = by k is
  where
    sum-none : (x : Axis) → along x left ≡ 0
    sum-none x = let a = get_or-le-total left (order_place A x) in let b = get_or-le-total left (order_place B x) in let c = get_or-le-total left (order_place C x) in omega arith

    by : (k : Kind) → claimed k ≡ true → scale_total k left ≡ 1
    by Overlap e = rw (sum-none X, sum-none Y, sum-none Z, plain-grows.first)
    by Kinetic e = absurd (clash (cc))
    by Nuclear e = rw (sum-none X, sum-none Y, sum-none Z, nuclear-grows.first)
    by Moment e = rw (sum-none X, sum-none Y, sum-none Z, plain-grows.first)
    by Coulomb e = absurd (clash (cc))

-- of any state
abbrev ByProduct : State → Type 0
ByProduct s = claimed s.kind ≡ true → Unused s.kind s.left → scale_sum (expand s) ≡ s.term.scale * scale_total s.kind s.left

next-sum : (s : State) → (total s.left ≡ 0 → ⊥) → claimed s.kind ≡ true → Unused s.kind s.left → total (map (weighed (scale_total s.kind)) (nexts s)) ≡ s.term.scale * scale_total s.kind s.left
unfolding nexts
next-sum s some is unused =
    let n = some_next s unused some in
    let l = legal s n.0 n.1 in
    ap (λ (ns : List Next). total (map (weighed (scale_total s.kind)) ns)) (at l.centre l.axis l.picked l.along)
    ∙ turns-sum (scale_total s.kind) l.centre l.axis 0 s (branches s.kind l.centre l.axis)
    ∙ ap (λ (v : ℕ). s.term.scale * v)
    (branches-add-up s.left l.axis s.kind l.centre is unused l.picked (axis-positive s.left l.centre l.axis l.along))
  where
    at : (c : CentreName) (x : Axis) → chosen s.kind s.left ≡ Some c → first_axis s.left c ≡ Some x → nexts s ≡ turns c x 0 s (branches s.kind c x)
    at c x e f = ap (λ (v : Option CentreName). on_fun v s) e ∙ ap (λ (v : Option Axis). on_axis c v s) f

pub state-total : (s : State) → ByProduct s
unfolding total
state-total =
    by-depth ByProduct
    (λ (s : State) (e : total s.left ≡ 0) (is : claimed s.kind ≡ true) (unused : Unused s.kind s.left).
    ap scale_sum (expand-done s e) ∙ let one = ones s.kind s.left is e in rw one (omega arith))
    (λ (s : State) (e : total s.left ≡ 0 → ⊥) (ih : (n : Next) → Memᴰ n (nexts s) → ByProduct n.state) (is : claimed s.kind ≡ true) (unused : Unused s.kind s.left).
    ap scale_sum (expand-more s e)
    ∙ each (weighed (scale_total s.kind)) (nexts s)
    (λ (n : Next) (m : Memᴰ n (nexts s)).
    let same = kind-stays s n m is in
    ih n m (ap claimed same ∙ is) (unused-kept s n m unused) ∙ ap (λ (k : Kind). n.state.term.scale * scale_total k n.state.left) same)
    ∙ next-sum s e is unused)

-- of every request of a claimed kind
pub total-by-hand : TotalByHand
total-by-hand k orders is none = state-total (start k orders) is (unused-zero k orders none) ∙ omega arith
