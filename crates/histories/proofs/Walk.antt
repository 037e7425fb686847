-- A step lowers the depth, so a walk with enough fuel is one and the same, and the laws of the lists need no fuel.
use Prim.Native.Nat.{ℕ, zero, suc, ◌+◌, ◌≤◌, ◌<◌}
use mathlib.Core.Path.{◌≡◌, refl, sym, ap, ap₂, ◌∙◌}
use mathlib.Core.Bool.{Bool, true, false}
use mathlib.Core.List.{List, [], ◌∷◌, ◌++◌, Memᴰ}
use native.Mathlib.Omega.{arith}
use borrow.Author.Tests.{eq-eqb, ne_eqb, eqb-true, eqb-false}
use lib.Dec.{eqb}
use Rattle.kind.specs.declared.Kind.{Kind}
use Rattle.kind.specs.declared.Kind.TheVariants.{Overlap, Kinetic, Nuclear, Moment, Coulomb}
use Rattle.steps.specs.declared.CentreName.{CentreName}
use Rattle.steps.specs.declared.Axis.{Axis}
use Rattle.steps.specs.Choice.{order_of}
use Rattle.steps.specs.Steps.{Branch, branches, times}
use Rattle.laws.specs.Total.{total}
use Rattle.steps.specs.States.{State, Next, step, nexts}
use Rattle.histories.specs.History.{stage, depth, in_turn, walk, term_so_far, alone, expand, nothing_more, after, histories}
use Rattle.histories.proofs.Orders.{fallen, lowered-total, axis-positive}
use Rattle.histories.specs.inner.OnTheWay.{follows, own}
use Rattle.histories.proofs.Fair.{Fair, fair-branch}
use Rattle.histories.proofs.Choices.{chosen-own}
use Rattle.histories.proofs.Nexts.{Legal, legal}

pub follows_itself : (k : Kind) → follows k k ≡ true
follows_itself Overlap = refl
follows_itself Kinetic = refl
follows_itself Nuclear = refl
follows_itself Moment = refl
follows_itself Coulomb = refl

-- the branch of a legal step is fair to whatever request the state follows
pub fair-step : (request : Kind) (s : State) (n : Next) (l : Legal s n) → follows request s.kind ≡ true → Fair request s.kind l.centre l.turn.branch
fair-step request s n l f = fair-branch request s.kind l.centre l.axis l.turn.branch f (chosen-own s.kind s.left l.centre l.picked) l.turn.among

-- what a legal step takes from the orders
pub step-total : (s : State) (n : Next) (l : Legal s n) → total n.state.left + fallen l.turn.branch.falls ≡ total s.left
unfolding step
step-total s n l =
    ap (λ (t : State). total t.left + fallen l.turn.branch.falls) l.turn.is
    ∙ lowered-total l.turn.branch.falls l.centre l.axis s.left (fair-step s.kind s n l (follows_itself s.kind)).falls-apart
    (axis-positive s.left l.centre l.axis l.along) l.turn.legal

pub step_down : (s : State) (n : Next) → Memᴰ n (nexts s) → depth n.state < depth s
unfolding depth step
step_down s n m =
    let l = legal s n m in
    let f = fair-step s.kind s n l (follows_itself s.kind) in
    let t = step-total s n l in
    let k = ap (λ (t : State). stage t.kind) l.turn.is in
    omega (arith, f.goes_down)

in-turn-alike : {A : Type 0} (f g : Next → List A) (ns : List Next) → ((n : Next) → Memᴰ n ns → f n ≡ g n) → in_turn f ns ≡ in_turn g ns
unfolding in_turn
in-turn-alike f g [] h = refl
in-turn-alike f g (n ∷ ns) h = ap₂ ◌++◌ (h n (Memᴰ.head refl)) (in-turn-alike f g ns (λ (m : Next) (i : Memᴰ m ns). h m (Memᴰ.tail i)))

none_left : (s : State) → depth s ≤ 0 → total s.left ≡ 0
unfolding depth
none_left s h = omega arith

module _ {A : Type 0} (leaf : State → A) (joined : Next → List A → List A) where
  walk-done : (d : ℕ) (s : State) → total s.left ≡ 0 → walk leaf joined d s ≡ leaf s ∷ []
  unfolding walk
  walk-done zero s e = refl
  walk-done (suc d) s e = rw (eq-eqb (total s.left) 0 e, walk)

  walk_more : (d : ℕ) (s : State) → (total s.left ≡ 0 → ⊥) → walk leaf joined (suc d) s ≡ in_turn (λ (n : Next). joined n (walk leaf joined d n.state)) (nexts s)
  unfolding walk
  walk_more d s e = rw (ne_eqb (total s.left) 0 e, walk)

  walk-enough : (d e : ℕ) (s : State) → depth s ≤ d → depth s ≤ e → walk leaf joined d s ≡ walk leaf joined e s
  walk-enough zero e s h i = walk-done zero s (none_left s h) ∙ sym (walk-done e s (none_left s h))
  walk-enough (suc d) zero s h i = walk-done (suc d) s (none_left s i) ∙ sym (walk-done zero s (none_left s i))
  walk-enough (suc d) (suc e) s h i = at_test (eqb (total s.left) 0) refl (λ (n : Next) (m : Memᴰ n (nexts s)). ap (joined n) (walk-enough d e n.state (less d n m h) (less e n m i)))
    where
      less : (d : ℕ) (n : Next) → Memᴰ n (nexts s) → depth s ≤ suc d → depth n.state ≤ d
      less d n m h = let k = step_down s n m in omega arith

      at_test : (v : Bool) → eqb (total s.left) 0 ≡ v
          → ((n : Next) → Memᴰ n (nexts s) → joined n (walk leaf joined d n.state) ≡ joined n (walk leaf joined e n.state))
          → walk leaf joined (suc d) s ≡ walk leaf joined (suc e) s
      at_test true t ih = walk-done (suc d) s (eqb-true _ _ t) ∙ sym (walk-done (suc e) s (eqb-true _ _ t))
      at_test false t ih =
          walk_more d s (eqb-false _ _ t)
          ∙ in-turn-alike (λ (n : Next). joined n (walk leaf joined d n.state)) (λ (n : Next). joined n (walk leaf joined e n.state)) (nexts s) ih
          ∙ sym (walk_more e s (eqb-false _ _ t))

  -- a walk at its own depth
  pub walk-all : (s : State) → (total s.left ≡ 0 → ⊥) → walk leaf joined (depth s) s ≡ in_turn (λ (n : Next). joined n (walk leaf joined (depth n.state) n.state)) (nexts s)
  walk-all s e =
      walk-enough (depth s) (suc (depth s)) s (omega arith) (omega arith)
      ∙ walk_more (depth s) s e
      ∙ in-turn-alike (λ (n : Next). joined n (walk leaf joined (depth s) n.state)) (λ (n : Next). joined n (walk leaf joined (depth n.state) n.state)) (nexts s)
      (λ (n : Next) (m : Memᴰ n (nexts s)). ap (joined n) (walk-enough (depth s) (depth n.state) n.state (let k = step_down s n m in omega arith) (omega arith)))

pub expand-done : (s : State) → total s.left ≡ 0 → expand s ≡ s.term ∷ []
unfolding expand
expand-done s e = walk-done term_so_far alone (depth s) s e

pub expand-more : (s : State) → (total s.left ≡ 0 → ⊥) → expand s ≡ in_turn (λ (n : Next). expand n.state) (nexts s)
unfolding expand
expand-more s e = walk-all term_so_far alone s e

pub histories-done : (s : State) → total s.left ≡ 0 → histories s ≡ [] ∷ []
unfolding histories
histories-done s e = walk-done nothing_more after (depth s) s e

pub histories-more : (s : State) → (total s.left ≡ 0 → ⊥) → histories s ≡ in_turn (λ (n : Next). after n (histories n.state)) (nexts s)
unfolding histories
histories-more s e = walk-all nothing_more after s e

-- a branch at a centre of the kind lowers the depth
pub branch-down : (s : State) (c : CentreName) (x : Axis) (b : Branch) → own s.kind c ≡ true → Memᴰ b (branches s.kind c x) → 0 < order_of s.left c x → 0 < times b.falls c x s.left
    → depth (step s c x b) < depth s
unfolding depth step
branch-down s c x b o m h l =
    let f = fair-branch s.kind s.kind c x b (follows_itself s.kind) o m in
    let t = lowered-total b.falls c x s.left f.falls-apart h l in
    let d = f.goes_down in
    omega arith
