-- Where a legal branch leads: the words have room for it, and its state is the step of the view.
use Prim.Native.Nat.{ℕ, ◌*◌, ◌-◌, ◌%◌, ◌≤◌, ◌<◌}
use mathlib.Core.Path.{◌≡◌, sym, ap, subst, ◌∙◌}
use mathlib.Core.Logic.{◌≢◌}
use mathlib.Core.Bool.{true, cond}
use mathlib.Core.List.{Memᴰ}
use native.Mathlib.Omega.{arith}
use native.Mathlib.Nat.{mul-le-mul}
use lib.ListN.{get_or}
use Rattle.kind.specs.declared.Kind.{Kind}
use Rattle.kind.specs.declared.Kind.TheVariants.{Overlap}
use Rattle.kind.specs.Limits.{most_scale}
use Rattle.kind.proofs.Within.{table-within}
use Rattle.steps.specs.declared.CentreName.{CentreName}
use Rattle.steps.specs.declared.Axis.{Axis}
use Rattle.steps.specs.declared.Move.{Move}
use Rattle.steps.specs.Choice.{order_place, operator}
use Rattle.steps.specs.Steps.{Falls, a-and-o, Branch, branches, times, lowered}
use Rattle.laws.proofs.Lists.{get_or-in}
use Rattle.steps.specs.States.{State, step}
use Rattle.steps.specs.inner.Packed.{orders, move_in, fall_word, no_branch}
use Rattle.steps.proofs.Falling.{Apart, falls-word, falls-held}
use Rattle.histories.specs.History.{depth}
use Rattle.histories.proofs.Orders.{apart, fallen, partner-apart, other-c-apart, other-d-apart, operator-apart, lowered-total}
use Rattle.histories.proofs.Fair.{Fair, fair-branch}
use Rattle.histories.proofs.Walk.{branch-down}
use Rattle.histories.specs.inner.OnTheWay.{Reached}
use Rattle.histories.proofs.Bounds.{step-reached, scale-on-the-way}
use Rattle.expansion.specs.declared.Path.{Path}
use Rattle.expansion.specs.inner.View.{path_term, moved_on, MoveMay}
use Rattle.expansion.specs.inner.Walking.{view_of, Good, TurnMay, ChildOf}
use Rattle.expansion.proofs.TermsWords.{length-prefactors}
use Rattle.expansion.proofs.WalkTurns.{inside, multiplier-here}

few-fall : (f : Falls) → fallen f ≤ 2
few-fall f = at f
  where
    at : (f : Falls) → fallen f ≤ 2
    at Rattle.steps.specs.Steps.a = omega arith
    at Rattle.steps.specs.Steps.a-twice = omega arith
    at Rattle.steps.specs.Steps.a-and-b = omega arith
    at Rattle.steps.specs.Steps.a-and-c = omega arith
    at Rattle.steps.specs.Steps.a-and-d = omega arith
    at a-and-o = omega arith
    at Rattle.steps.specs.Steps.nothing = omega arith

all_apart : (c : CentreName) (x : Axis) → Apart c x
all_apart c x = record { from-partner = partner-apart c x; from-c = other-c-apart c x; from-d = other-d-apart c x }

module _ (k : Kind) (left : ℕ) (p : Path) (c : CentreName) (x : Axis) (times' number : ℕ) (good : Good k left p) (turn : TurnMay k left c x times' number) (legal : times' % 16 ≡ 0 → ⊥) where
  some : times' ≡ 0 → ⊥
  some e = legal (omega arith)

  abbrev this : Branch
  this = get_or (branches k c x) number no_branch

  times-here : times' % 16 ≡ times this.falls c x (orders left)
  times-here = multiplier-here k left c x times' number turn some

  among : Memᴰ this (branches k c x)
  among = get_or-in (branches k c x) number no_branch (inside k left c x times' number turn some)

  fair : Fair good.request k c this
  fair = fair-branch good.request k c x this good.reached.followed turn.own-centre among

  positive-times : 0 < times this.falls c x (orders left)
  positive-times = let h = times-here in omega arith

  operator-away : this.falls ≡ a-and-o → order_place operator x ≢ order_place c x
  operator-away e = operator-apart c x (subst (λ (f : Falls). apart f c ≡ true) e fair.falls-apart)

  abbrev view : State
  view = view_of k left p

  module _ (m : Move) (is : m ≡ move_in k c x (branches k c x) number) where
    falls-is : m.falls ≡ fall_word this.falls c x
    unfolding move_in
    falls-is = ap (λ (n : Move). n.falls) is

    adds-is : m.adds ≡ this.adds
    unfolding move_in
    adds-is = ap (λ (n : Move). n.adds) is

    raises-is : m.raises ≡ this.raises
    unfolding move_in
    raises-is = ap (λ (n : Move). n.raises) is

    kind-is : m.kind ≡ cond this.as-overlap Overlap k
    unfolding move_in
    kind-is = ap (λ (n : Move). n.kind) is

    pub child-moves : MoveMay p (times' % 16) m.raises m.adds
    unfolding depth
    child-moves =
        let r = good.reached in
        let deep = good.deep in
        let scale = scale-on-the-way good.request good.request-orders view r (omega arith) in
        let counted = r.counted in
        let count = length-prefactors p.count p.low p.high in
        let boys = r.boys-most in
        let adds = fair.in_table in
        let table = table-within good.request in
        let raises = fair.raises-less in
        let few = few-fall this.falls in
        let down = branch-down view c x this turn.own-centre among turn.positive positive-times in
        let a = adds-is in
        let b = raises-is in
        let less : times' % 16 ≤ 16 = omega arith in
        let product : p.scale * (times' % 16) ≤ most_scale * 16 = mul-le-mul scale less in
        record { scale = omega arith; boys = omega arith; adds-small = omega arith; count = omega arith }

    pub child-held : m.falls ≤ left
    child-held = rw falls-is (falls-held c x left (all_apart c x) turn.positive this.falls operator-away positive-times)

    orders-left : orders (left - m.falls) ≡ lowered this.falls c x (orders left)
    orders-left = ap (λ (n : ℕ). orders (left - n)) falls-is ∙ falls-word c x left (all_apart c x) turn.positive this.falls operator-away positive-times

    module _ (on : Path) (moved : path_term on ≡ moved_on (path_term p) (times' % 16) m.raises m.adds) where
      view-is : view_of m.kind (left - m.falls) on ≡ step view c x this
      unfolding step
      view-is =
          let t : path_term on ≡ moved_on (path_term p) (times this.falls c x (orders left)) this.raises this.adds = moved ∙ rw (times-here, raises-is, adds-is) in
          λ i. record { kind = kind-is i; left = orders-left i; term = t i }

      pub child-of : ChildOf k left p c x number (record { kind = m.kind; left = left - m.falls; path = on })
      child-of =
          record {
            good =
                record {
                  request = good.request;
                  request-orders = good.request-orders;
                  reached =
                      subst (Reached good.request good.request-orders) (sym view-is)
                      (step-reached good.request good.request-orders view c x this fair
                      (lowered-total this.falls c x (orders left) fair.falls-apart turn.positive positive-times) positive-times good.reached);
                  deep = good.deep;
                  word = let h = good.word in omega arith;
                };
            is = view-is;
            down = subst (λ (s : State). depth s < depth view) (sym view-is) (branch-down view c x this turn.own-centre among turn.positive positive-times);
          }
