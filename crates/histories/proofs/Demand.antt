-- Demand 3, over the kind: the list is the replay of the complete histories, each once, in dictionary order.
use Prim.Native.Nat.{ℕ, zero, suc, ◌<◌}
use mathlib.Core.Path.{◌≡◌, refl, sym, ap, ap₂, ◌∙◌}
use mathlib.Core.Bool.{Bool, true, false, cond}
use mathlib.Core.List.{List, [], ◌∷◌, ◌++◌, map, map-map, map-append, Memᴰ}
use native.Mathlib.Omega.{arith}
use borrow.Author.Tests.{eq-eqb, ne_eqb}
use lib.Dec.{eqb}
use lib.ListN.{length, length-map}
use Rattle.std.specs.Prelude.{Option, Some, None}
use Rattle.steps.specs.declared.CentreName.{CentreName}
use Rattle.steps.specs.declared.Axis.{Axis}
use Rattle.steps.specs.Choice.{chosen, first_axis}
use Rattle.steps.specs.Steps.{Branch, branches, times}
use Rattle.laws.specs.Total.{total}
use Rattle.steps.specs.States.{State, Next, step, if_legal, turns, on_axis, on_fun, nexts}
use Rattle.histories.specs.History.{led, replay, depth, in_turn, expand, after, histories}
use Rattle.histories.proofs.Nexts.{turn-of}
use Rattle.histories.proofs.Walk.{step_down, expand-done, expand-more, histories-done, histories-more}

-- numbers grow along a list of next states, and lead back to their states
pub data Numbered : List Next → Type 0 where
  no-next : Numbered []
  next-then : {n : Next} {ns : List Next} → ((m : Next) → Memᴰ m ns → n.number < m.number) → Numbered ns → Numbered (n ∷ ns)

turns-numbered : (c : CentreName) (x : Axis) (k : ℕ) (s : State) (bs : List Branch) → Numbered (turns c x k s bs)
unfolding turns
turns-numbered c x k s [] = no-next
turns-numbered c x k s (b ∷ bs) = by-times (times b.falls c x s.left) (turns-numbered c x (suc k) s bs)
  where
    by-times : (v : ℕ) → Numbered (turns c x (suc k) s bs) → Numbered (if_legal v (record { number = k; state = step s c x b }) (turns c x (suc k) s bs))
    by-times zero ih = ih
    by-times (suc v) ih = next-then (λ (m : Next) (i : Memᴰ m (turns c x (suc k) s bs)). (turn-of c x (suc k) s bs m i).from) ih

pub nexts-numbered : (s : State) → Numbered (nexts s)
unfolding nexts
nexts-numbered s = on-fun (chosen s.kind s.left)
  where
    on-axis : (c : CentreName) (v : Option Axis) → Numbered (on_axis c v s)
    on-axis c None = no-next
    on-axis c (Some x) = turns-numbered c x 0 s (branches s.kind c x)

    on-fun : (v : Option CentreName) → Numbered (on_fun v s)
    on-fun None = no-next
    on-fun (Some c) = on-axis c (first_axis s.left c)

led-back : (s : State) (ns : List Next) → Numbered ns → (n : Next) → Memᴰ n ns → led n.number s ns ≡ n.state
led-back s [] _ n x3 = elim x3 [ ]
led-back s (m ∷ ns) (next-then f r) n (Memᴰ.head e) =
    ap (λ (v : Bool). cond v m.state (led n.number s ns)) (eq-eqb n.number m.number (ap (λ (p : Next). p.number) e)) ∙ ap (λ (p : Next). p.state) (sym e)
led-back s (m ∷ ns) (next-then f r) n (Memᴰ.tail i) =
    ap (λ (v : Bool). cond v m.state (led n.number s ns)) (ne_eqb n.number m.number (λ (e : n.number ≡ m.number). let h = f n i in omega arith))
    ∙ led-back s ns r n i

-- an induction over all states: a state with no order left, and one whose next states are done
module _ (P : State → Type 0) (done : (s : State) → total s.left ≡ 0 → P s)
    (more : (s : State) → (total s.left ≡ 0 → ⊥) → ((n : Next) → Memᴰ n (nexts s) → P n.state) → P s) where
  below : (d : ℕ) (s : State) → depth s < d → P s
  below zero s h = elim h [ ]
  below (suc d) s h = by-test (eqb (total s.left) 0) refl (λ (n : Next) (m : Memᴰ n (nexts s)). below d n.state (let k = step_down s n m in omega arith))
    where
      by-test : (v : Bool) → eqb (total s.left) 0 ≡ v → ((n : Next) → Memᴰ n (nexts s) → P n.state) → P s
      by-test true t ih = done s (borrow.Author.Tests.eqb-true _ _ t)
      by-test false t ih = more s (borrow.Author.Tests.eqb-false _ _ t) ih

  pub by-depth : (s : State) → P s
  by-depth s = below (suc (depth s)) s (omega arith)

-- The expansion is the replay of the list of histories, each on its own.
pub expansion-is-replay : (s : State) → expand s ≡ map (replay s) (histories s)
unfolding replay in_turn
expansion-is-replay =
    by-depth (λ (s : State). expand s ≡ map (replay s) (histories s))
    (λ (s : State) (e : total s.left ≡ 0). expand-done s e ∙ sym (ap (map (replay s)) (histories-done s e)))
    (λ (s : State) (e : total s.left ≡ 0 → ⊥) (ih : (n : Next) → Memᴰ n (nexts s) → expand n.state ≡ map (replay n.state) (histories n.state)).
    expand-more s e ∙ each s (nexts s) (λ (n : Next) (m : Memᴰ n (nexts s)). ih n m ∙ shifted s n m) ∙ sym (ap (map (replay s)) (histories-more s e)))
  where
    shifted : (s : State) (n : Next) → Memᴰ n (nexts s) → map (replay n.state) (histories n.state) ≡ map (replay s) (after n (histories n.state))
    shifted s n m =
        ap (λ (t : State). map (replay t) (histories n.state)) (sym (led-back s (nexts s) (nexts-numbered s) n m))
        ∙ sym (map-map (replay s) (λ (h : List ℕ). n.number ∷ h) (histories n.state))

    each : (s : State) (ns : List Next) → ((n : Next) → Memᴰ n ns → expand n.state ≡ map (replay s) (after n (histories n.state)))
        → in_turn (λ (n : Next). expand n.state) ns ≡ map (replay s) (in_turn (λ (n : Next). after n (histories n.state)) ns)
    each s [] f = refl
    each s (n ∷ ns) f =
        ap₂ ◌++◌ (f n (Memᴰ.head refl)) (each s ns (λ (m : Next) (i : Memᴰ m ns). f m (Memᴰ.tail i)))
        ∙ sym (map-append (replay s) (after n (histories n.state)) (in_turn (λ (m : Next). after m (histories m.state)) ns))

-- So refusal 4, which counts terms, counts histories.
pub as_many : (s : State) → length (expand s) ≡ length (histories s)
as_many s = ap length (expansion-is-replay s) ∙ length-map (histories s) (replay s)
