-- What each call of the walk asks and gives, a law for each. The number that falls: ten for each step left, then the branches left.
use Prim.Native.Nat.{ℕ, ◌+◌, ◌*◌, ◌-◌, ◌/◌, ◌%◌, ◌^◌, ◌<◌}
use mathlib.Core.Path.{◌≡◌, refl, sym, ap, subst, ◌∙◌}
use mathlib.Core.List.{List, [], ◌∷◌, ◌++◌}
use native.Mathlib.Omega.{arith}
use Rattle.laws.proofs.Cases.{clash}
use Rattle.kind.specs.declared.Kind.{Kind}
use Rattle.kind.specs.Limits.{request_orders}
use Rattle.term.specs.Terms.{Term}
use Rattle.steps.specs.declared.CentreName.{CentreName}
use Rattle.steps.specs.declared.Axis.{Axis}
use Rattle.steps.specs.Choice.{chosen, first_axis}
use Rattle.steps.specs.Steps.{branches}
use Rattle.laws.specs.Total.{total}
use Rattle.steps.specs.States.{Next, on_axis, on_fun, nexts}
use Rattle.steps.specs.inner.Packed.{orders, multiplier_word}
use Rattle.steps.proofs.Falling.{some_left, none_left}
use Rattle.histories.specs.History.{depth, in_turn, expand}
use Rattle.histories.proofs.Orders.{axis-positive}
use Rattle.histories.proofs.Choices.{chosen-own}
use Rattle.histories.proofs.Walk.{expand-done, expand-more}
use Rattle.histories.proofs.Bounds.{scale-on-the-way}
use Rattle.expansion.specs.declared.Path.{Path}
use Rattle.expansion.specs.declared.Child.{Child}
use Rattle.expansion.specs.declared.Lowered.{Lowered}
use Rattle.expansion.specs.inner.View.{path_term}
use Rattle.expansion.specs.inner.Sinks.{Sink, Room, Took, EmitMay}
use Rattle.expansion.specs.inner.Walking.{view_of, Good, TurnMay, ChildOf, lowering, lowering_of, lowering_along, terms_below, terms_from, NodeMay, BranchMay}
use Rattle.expansion.proofs.TermsWords.{length-prefactors}
use Rattle.expansion.proofs.WalkTurns.{from-none, from-skip, from-legal, turn-next, below-eight}
use Rattle.expansion.proofs.SinkLaws.{took-none, room-first, room-then, took-both}
use Rattle.std.specs.Prelude.{Option, Some, None}

unfoldable pub node_fuel : Kind → ℕ → Path → ℕ
node_fuel k left p = 10 * depth (view_of k left p) + 9

unfoldable pub below_fuel : Child → ℕ
below_fuel child = 10 * depth (view_of child.kind child.left child.path) + 10

unfoldable pub branch_fuel : Kind → ℕ → Path → ℕ → ℕ
branch_fuel k left p number = 10 * depth (view_of k left p) + (8 - number)

pub below-falls : (child : Child) (t : ℕ) → below_fuel child ≡ t → node_fuel child.kind child.left child.path < t
unfolding below_fuel node_fuel
below-falls child t e = omega arith

module _ (k : Kind) (left : List ℕ) (f : Option CentreName) (is : f ≡ chosen k left) where
  pub choose-none : f ≡ None → None ≡ lowering k left
  unfolding lowering
  choose-none e = ap (λ (v : Option CentreName). lowering_of v left) (sym e ∙ is)

  module _ (c : CentreName) (found : f ≡ Some c) (v : Option Axis) (axis : v ≡ first_axis left c) where
    pub choose-nowhere : v ≡ None → None ≡ lowering k left
    unfolding lowering
    choose-nowhere e = ap (lowering_along c) (sym e ∙ axis) ∙ ap (λ (w : Option CentreName). lowering_of w left) (sym found ∙ is)

    pub choose-at : (x : Axis) → v ≡ Some x → Some (record { centre = c; axis = x }) ≡ lowering k left
    unfolding lowering
    choose-at x e = ap (lowering_along c) (sym e ∙ axis) ∙ ap (λ (w : Option CentreName). lowering_of w left) (sym found ∙ is)

pub branch-none : (k : Kind) (left : ℕ) (p : Path) (c : CentreName) (x : Axis) (times number : ℕ) (s : Sink) → BranchMay k left p c x times number s → times ≡ 0 → Took s (terms_from k left p c x number) s
branch-none k left p c x times number s may e = took-none s (terms_from k left p c x number) (terms_from k left p c x number) may.room (from-none k left c x times number may.turn p e)

module _ (k : Kind) (left : ℕ) (p : Path) (c : CentreName) (x : Axis) (times number : ℕ) (s : Sink) (may : BranchMay k left p c x times number s) where
  module _ (some : times ≡ 0 → ⊥) where
    pub number_fits : number + 1 < 256
    number_fits = let h = below-eight k left c x times number may.turn some in omega arith

    pub skip-falls : (t : ℕ) → branch_fuel k left p number ≡ t → branch_fuel k left p (number + 1) < t
    unfolding branch_fuel
    skip-falls t e = let h = below-eight k left c x times number may.turn some in omega arith

    pub skip-may : times % 16 ≡ 0 → BranchMay k left p c x (times / 16) (number + 1) s
    skip-may e =
        record {
          good = may.good;
          turn = turn-next k left c x times number may.turn some;
          room = subst (λ (ts : List Term). Room s ts) (sym (from-skip k left c x times number may.turn some p e)) may.room;
        }

    pub skipped : (r : Sink) → times % 16 ≡ 0 → Took s (terms_from k left p c x (number + 1)) r → Took s (terms_from k left p c x number) r
    skipped r e h = subst (λ (ts : List Term). Took s ts r) (from-skip k left c x times number may.turn some p e) h

  module _ (child : Child) (legal : times % 16 ≡ 0 → ⊥) (of : ChildOf k left p c x number child) where
    some-times : times ≡ 0 → ⊥
    some-times e = legal (omega arith)

    split : terms_from k left p c x number ≡ terms_below child.kind child.left child.path ++ terms_from k left p c x (number + 1)
    split = from-legal k left c x times number may.turn some-times p child legal of

    pub child-falls : (t : ℕ) → branch_fuel k left p number ≡ t → below_fuel child < t
    unfolding branch_fuel below_fuel
    child-falls t e = let h = below-eight k left c x times number may.turn some-times in let d = of.down in omega arith

    pub child-may : NodeMay child.kind child.left child.path s
    child-may = record { good = of.good; room = room-first (terms_from k left p c x number) (terms_below child.kind child.left child.path) (terms_from k left p c x (number + 1)) split s may.room }

    module _ (mid : Sink) (first : Took s (terms_below child.kind child.left child.path) mid) where
      pub then_may : BranchMay k left p c x (times / 16) (number + 1) mid
      then_may =
          record {
            good = may.good;
            turn = turn-next k left c x times number may.turn some-times;
            room = room-then (terms_from k left p c x number) (terms_below child.kind child.left child.path) (terms_from k left p c x (number + 1)) split s mid first may.room;
          }

      pub then-done : (r : Sink) → Took mid (terms_from k left p c x (number + 1)) r → Took s (terms_from k left p c x number) r
      then-done r h = took-both (terms_from k left p c x number) (terms_below child.kind child.left child.path) (terms_from k left p c x (number + 1)) split s mid first r h

      pub then-last : times / 16 ≡ 0 → Took s (terms_from k left p c x number) mid
      then-last e = then-done mid (branch-none k left p c x (times / 16) (number + 1) mid then_may e)

-- the numbers of a path on the way are small
pub record Words (p : Path) : Type 0 where
  pub scale-fits : p.scale < 2 ^ 32
  pub boys-fits : p.boys < 128
  pub count_fits : p.count < 25

pub good-words : (k : Kind) (left : ℕ) (p : Path) → Good k left p → Words p
unfolding depth
good-words k left p g =
    let r = g.reached in
    let deep = g.deep in
    let scale = scale-on-the-way g.request g.request-orders (view_of k left p) r (omega arith) in
    let counted = r.counted in
    let count = length-prefactors p.count p.low p.high in
    let boys = r.boys-most in
    record { scale-fits = omega arith; boys-fits = omega arith; count_fits = omega arith }

-- the terms below a state: its own where no order is left, none, or those from branch 0 on
module _ (k : Kind) (left : ℕ) (p : Path) where
  pub below-done : left ≡ 0 → terms_below k left p ≡ path_term p ∷ []
  unfolding terms_below
  below-done e = expand-done (view_of k left p) (ap (λ (w : ℕ). total (orders w)) e ∙ none_left)

  module _ (word : left < 16 ^ request_orders) (some : left ≡ 0 → ⊥) (r : Option Lowered) (is : r ≡ lowering k (orders left)) where
    more : terms_below k left p ≡ in_turn (λ (n : Next). expand n.state) (nexts (view_of k left p))
    unfolding terms_below
    more = expand-more (view_of k left p) (some_left left word some)

    pub below_none : r ≡ None → terms_below k left p ≡ []
    unfolding lowering nexts in_turn
    below_none e = more ∙ ap (in_turn (λ (n : Next). expand n.state)) (by-fun (chosen k (orders left)) refl (sym is ∙ e))
      where
        by-axis : (c : CentreName) (v : Option Axis) → lowering_along c v ≡ None → on_axis c v (view_of k left p) ≡ []
        by-axis c None f = refl
        by-axis c (Some x) f = absurd (clash (cc))

        by-fun : (v : Option CentreName) → chosen k (orders left) ≡ v → lowering_of v (orders left) ≡ None → on_fun v (view_of k left p) ≡ []
        by-fun None f g = refl
        by-fun (Some c) f g = by-axis c (first_axis (orders left) c) g

    module _ (c : CentreName) (x : Axis) (at-them : r ≡ Some (record { centre = c; axis = x })) where
      -- what a choice of both says
      record Both : Type 0 where
        picked : chosen k (orders left) ≡ Some c
        along : first_axis (orders left) c ≡ Some x

      both : Both
      unfolding lowering
      both = by-fun (chosen k (orders left)) refl (sym is ∙ at-them)
        where
          by-axis : (d : CentreName) (v : Option Axis) → chosen k (orders left) ≡ Some d → first_axis (orders left) d ≡ v → lowering_along d v ≡ Some (record { centre = c; axis = x }) → Both
          by-axis d None p f g = absurd (clash (cc))
          by-axis d (Some y) p f g =
              let lowered : ◌≡◌ {A = Lowered} (record { centre = d; axis = y }) (record { centre = c; axis = x }) = cc in
              let same : d ≡ c = ap (λ (l : Lowered). l.centre) lowered in
              let axis : y ≡ x = ap (λ (l : Lowered). l.axis) lowered in
              record { picked = p ∙ ap Some same; along = subst (λ (e : CentreName). first_axis (orders left) e ≡ Some x) same (f ∙ ap Some axis) }

          by-fun : (v : Option CentreName) → chosen k (orders left) ≡ v → lowering_of v (orders left) ≡ Some (record { centre = c; axis = x }) → Both
          by-fun None f g = absurd (clash (cc))
          by-fun (Some d) f g = by-axis d (first_axis (orders left) d) f refl g

      pub below-first : terms_below k left p ≡ terms_from k left p c x 0
      unfolding terms_from nexts
      below-first =
          more
          ∙ ap (in_turn (λ (n : Next). expand n.state))
          (ap (λ (f : Option CentreName). on_fun f (view_of k left p)) both.picked ∙ ap (λ (v : Option Axis). on_axis c v (view_of k left p)) both.along)

      pub first-turn : (times : ℕ) → times ≡ multiplier_word c x (orders left) (branches k c x) → TurnMay k left c x times 0
      first-turn times e =
          record {
            own-centre = chosen-own k (orders left) c both.picked;
            positive = axis-positive (orders left) c x both.along;
            few = omega arith;
            is = e;
          }

module _ (k : Kind) (left : ℕ) (p : Path) (s : Sink) (may : NodeMay k left p s) where
  pub node-emits : left ≡ 0 → EmitMay p s
  node-emits e =
      let w = good-words k left p may.good in
      record { scale = w.scale-fits; boys = w.boys-fits; count = w.count_fits; room = subst (λ (ts : List Term). Room s ts) (below-done k left p e) may.room }

  pub node-emitted : (r : Sink) → left ≡ 0 → Took s (path_term p ∷ []) r → Took s (terms_below k left p) r
  node-emitted r e h = subst (λ (ts : List Term). Took s ts r) (sym (below-done k left p e)) h

  pub first-falls : (t : ℕ) → node_fuel k left p ≡ t → branch_fuel k left p 0 < t
  unfolding node_fuel branch_fuel
  first-falls t e = omega arith

  module _ (some : left ≡ 0 → ⊥) (r : Option Lowered) (is : r ≡ lowering k (orders left)) where
    pub node-none : r ≡ None → Took s (terms_below k left p) s
    node-none e = took-none s (terms_below k left p) (terms_below k left p) may.room (below_none k left p may.good.word some r is e)

    module _ (c : CentreName) (x : Axis) (at-them : r ≡ Some (record { centre = c; axis = x })) where
      from_first : terms_below k left p ≡ terms_from k left p c x 0
      from_first = below-first k left p may.good.word some r is c x at-them

      pub first-may : (times : ℕ) → times ≡ multiplier_word c x (orders left) (branches k c x) → BranchMay k left p c x times 0 s
      first-may times e =
          record {
            good = may.good;
            turn = first-turn k left p may.good.word some r is c x at-them times e;
            room = subst (λ (ts : List Term). Room s ts) from_first may.room;
          }

      pub first_done : (end : Sink) → Took s (terms_from k left p c x 0) end → Took s (terms_below k left p) end
      first_done end h = subst (λ (ts : List Term). Took s ts end) (sym from_first) h
