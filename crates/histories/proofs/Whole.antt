-- A history is in the list exactly when it is complete.
use Prim.Native.Nat.{ℕ}
use mathlib.Core.Path.{◌≡◌, refl, sym, ap, subst}
use mathlib.Core.List.Memᴰ
use mathlib.Core.List.{List, [], ◌∷◌, Memᴰ}
use Rattle.laws.specs.Total.{total}
use Rattle.steps.specs.States.{State, Next, nexts}
use Rattle.histories.specs.History.{Complete, finished, goes-on-by, in_turn, after, histories}
use Rattle.histories.proofs.Choices.{none-legal}
use Rattle.histories.proofs.Walk.{histories-done, histories-more}
use Rattle.histories.proofs.Demand.{by-depth}
use Rattle.histories.proofs.Ascends.{behind, under}

into-after : (n : Next) (hs : List (List ℕ)) (h : List ℕ) → Memᴰ h hs → Memᴰ (n.number ∷ h) (after n hs)
into-after n (g ∷ hs) h (Memᴰ.head e) = Memᴰ.head (ap (λ (l : List ℕ). n.number ∷ l) e)
into-after n [] h x' = elim x' [ ]
into-after n (g ∷ hs) h (Memᴰ.tail m) = Memᴰ.tail (into-after n hs h m)

into-turn : {A : Type 0} (f : Next → List A) (ns : List Next) (n : Next) (y : A) → Memᴰ n ns → Memᴰ y (f n) → Memᴰ y (in_turn f ns)
unfolding in_turn
into-turn f (m ∷ ns) n y (Memᴰ.head e) i = Memᴰ.append_left (in_turn f ns) (subst (λ (p : Next). Memᴰ y (f p)) e i)
into-turn {A = A} f [] n y x'' i = elim x'' [ ]
into-turn f (m ∷ ns) n y (Memᴰ.tail j) i = Memᴰ.append_right (f m) (into-turn f ns n y j i)

pub listed-is-complete : (s : State) (h : List ℕ) → Memᴰ h (histories s) → Complete s h
listed-is-complete =
    by-depth (λ (s : State). (h : List ℕ) → Memᴰ h (histories s) → Complete s h)
    (λ (s : State) (e : total s.left ≡ 0) (h : List ℕ) (m : Memᴰ h (histories s)).
    subst (Complete s) (sym (Memᴰ.eq_of_singleton (subst (Memᴰ h) (histories-done s e) m))) (finished e))
    (λ (s : State) (e : total s.left ≡ 0 → ⊥) (ih : (n : Next) → Memᴰ n (nexts s) → (h : List ℕ) → Memᴰ h (histories n.state) → Complete n.state h)
    (h : List ℕ) (m : Memᴰ h (histories s)).
    let u = under (λ (n : Next). after n (histories n.state)) (nexts s) h (subst (Memᴰ h) (histories-more s e) m) in
    let b = behind u.next (histories u.next.state) h u.inside in
    subst (Complete s) (sym b.is) (goes-on-by u.next u.in_row (ih u.next u.in_row b.rest b.in_rest)))

-- a state with a legal step has an order left
not_done : (s : State) (n : Next) → Memᴰ n (nexts s) → total s.left ≡ 0 → ⊥
not_done s n m e = nothing-in (subst (Memᴰ n) (none-legal s e) m)
  where
    nothing-in : Memᴰ n [] → ⊥
    nothing-in i = elim i [ ]

pub complete-is-listed : (s : State) (h : List ℕ) → Complete s h → Memᴰ h (histories s)
complete-is-listed s h (finished e) = subst (Memᴰ []) (sym (histories-done s e)) (Memᴰ.head refl)
complete-is-listed s h (goes-on-by {h = g} n m c) =
    subst (Memᴰ (n.number ∷ g)) (sym (histories-more s (not_done s n m)))
    (into-turn (λ (p : Next). after p (histories p.state)) (nexts s) n (n.number ∷ g) m (into-after n (histories n.state) g (complete-is-listed n.state g c)))
