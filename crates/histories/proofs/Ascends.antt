-- The histories are strictly ascending in dictionary order, so none stands twice.
use Prim.Native.Nat.{ℕ, suc}
use mathlib.Core.Path.{◌≡◌, refl, sym, ap, subst, subst₂}
use mathlib.Core.Logic.{⊎_elim}
use mathlib.Core.List.Memᴰ
use mathlib.Core.List.{List, [], ◌∷◌, ◌++◌, Memᴰ}
use native.Mathlib.Omega.{arith}
use lib.ListN.{length}
use Rattle.laws.specs.Total.{total}
use Rattle.steps.specs.States.{State, Next, nexts}
use Rattle.histories.specs.History.{in_turn, after, histories, Before, ends-sooner, branches-lower, branches-alike, Ascending, no_more, and_then}
use Rattle.histories.proofs.Walk.{histories-done, histories-more}
use Rattle.histories.proofs.Demand.{Numbered, next-then, nexts-numbered, by-depth}

-- nothing stands before itself
before-same : (g h : List ℕ) → Before g h → g ≡ h → ⊥
before-same (j ∷ g) [] x5 e = elim x5 [ ]
before-same [] [] x4 e = elim x4 [ ]
before-same [] (k ∷ h) ends-sooner e = let n : 0 ≡ suc (length h) = ap length e in omega arith
before-same (j ∷ g) (k ∷ h) (branches-lower l) e = let s : j ≡ k = cc in omega arith
before-same (j ∷ g) (k ∷ h) (branches-alike b) e = before-same g h b (cc)

pub before-itself : (h : List ℕ) → Before h h → ⊥
before-itself h b = before-same h h b refl

-- a list in which each stands before all that follow holds none twice
pub once : (h : List ℕ) (hs : List (List ℕ)) → Ascending (h ∷ hs) → Memᴰ h hs → ⊥
once h hs (and_then f r) m = before-itself h (f h m)

ascending-append : (xs ys : List (List ℕ)) → Ascending xs → Ascending ys → ((x y : List ℕ) → Memᴰ x xs → Memᴰ y ys → Before x y) → Ascending (xs ++ ys)
ascending-append [] ys p q f = q
ascending-append (x ∷ xs) ys (and_then g r) q f =
    and_then
    (λ (y : List ℕ) (m : Memᴰ y (xs ++ ys)).
    ⊎_elim (λ (i : Memᴰ y xs). g y i) (λ (i : Memᴰ y ys). f x y (Memᴰ.head refl) i) (Memᴰ.append_cases xs m))
    (ascending-append xs ys r q (λ (a b : List ℕ) (i : Memᴰ a xs) (j : Memᴰ b ys). f a b (Memᴰ.tail i) j))

-- a history behind a branch number
pub record Behind (n : Next) (hs : List (List ℕ)) (h : List ℕ) : Type 0 where
  pub rest : List ℕ
  pub in_rest : Memᴰ rest hs
  pub is : h ≡ n.number ∷ rest

pub behind : (n : Next) (hs : List (List ℕ)) (h : List ℕ) → Memᴰ h (after n hs) → Behind n hs h
behind n [] h x' = elim x' [ ]
behind n (g ∷ hs) h (Memᴰ.head e) = record { rest = g; in_rest = Memᴰ.head refl; is = e }
behind n (g ∷ hs) h (Memᴰ.tail m) =
    let b = behind n hs h m in
    record { rest = b.rest; in_rest = Memᴰ.tail b.in_rest; is = b.is }

ascending-after : (n : Next) (hs : List (List ℕ)) → Ascending hs → Ascending (after n hs)
ascending-after n [] p = no_more
ascending-after n (h ∷ hs) (and_then f r) =
    and_then
    (λ (g : List ℕ) (m : Memᴰ g (after n hs)).
    let b = behind n hs g m in
    subst (λ (l : List ℕ). Before (n.number ∷ h) l) (sym b.is) (branches-alike (f b.rest b.in_rest)))
    (ascending-after n hs r)

-- where in a row of next states something stands
pub record Under {A : Type 0} (f : Next → List A) (ns : List Next) (y : A) : Type 0 where
  pub next : Next
  pub in_row : Memᴰ next ns
  pub inside : Memᴰ y (f next)

pub under : {A : Type 0} (f : Next → List A) (ns : List Next) (y : A) → Memᴰ y (in_turn f ns) → Under f ns y
unfolding in_turn
under f [] y m = elim m [ ]
under f (n ∷ ns) y m =
    ⊎_elim (λ (i : Memᴰ y (f n)). record { next = n; in_row = Memᴰ.head refl; inside = i })
    (λ (i : Memᴰ y (in_turn f ns)). later (under f ns y i)) (Memᴰ.append_cases (f n) m)
  where
    later : Under f ns y → Under f (n ∷ ns) y
    later u = record { next = u.next; in_row = Memᴰ.tail u.in_row; inside = u.inside }

ascending-in-turn : (f : Next → List (List ℕ)) (ns : List Next) → Numbered ns → ((n : Next) → Memᴰ n ns → Ascending (after n (f n))) → Ascending (in_turn (λ (n : Next). after n (f n)) ns)
unfolding in_turn
ascending-in-turn f [] p h = no_more
ascending-in-turn f (n ∷ ns) (next-then lower p) h =
    ascending-append (after n (f n)) (in_turn (λ (m : Next). after m (f m)) ns) (h n (Memᴰ.head refl))
    (ascending-in-turn f ns p (λ (m : Next) (i : Memᴰ m ns). h m (Memᴰ.tail i)))
    (λ (x y : List ℕ) (i : Memᴰ x (after n (f n))) (j : Memᴰ y (in_turn (λ (m : Next). after m (f m)) ns)).
    let b = behind n (f n) x i in
    let u = under (λ (m : Next). after m (f m)) ns y j in
    let d = behind u.next (f u.next) y u.inside in
    subst₂ Before (sym b.is) (sym d.is) (branches-lower (lower u.next u.in_row)))

pub histories-ascend : (s : State) → Ascending (histories s)
histories-ascend =
    by-depth (λ (s : State). Ascending (histories s))
    (λ (s : State) (e : total s.left ≡ 0). subst Ascending (sym (histories-done s e)) (and_then (λ (g : List ℕ) (m : Memᴰ g []). elim m [ ]) no_more))
    (λ (s : State) (e : total s.left ≡ 0 → ⊥) (ih : (n : Next) → Memᴰ n (nexts s) → Ascending (histories n.state)).
    subst Ascending (sym (histories-more s e))
    (ascending-in-turn (λ (n : Next). histories n.state) (nexts s) (nexts-numbered s) (λ (n : Next) (m : Memᴰ n (nexts s)). ascending-after n (histories n.state) (ih n m))))
