-- 01, "Steps": histories, the terms that they give, and their order.
use Rattle.std.specs.Prelude.{ℕ, zero, suc, ◌+◌, ◌<◌, ◌≡◌, true, false, cond, eqb}
use mathlib.Core.List.{List, [], ◌∷◌, ◌++◌, map, Memᴰ}
use Rattle.kind.specs.declared.Kind.{Kind}
use Rattle.kind.specs.declared.Kind.TheVariants.{Overlap, Kinetic, Nuclear, Moment, Coulomb}
use Rattle.term.specs.Terms.{Term}
use Rattle.laws.specs.Total.{total}
use Rattle.steps.specs.States.{State, Next, nexts}

-- A history is a list of branch numbers, each legal where it stands, complete when all orders are 0.
pub data Complete : State → List ℕ → Type 0 where
  finished : {s : State} → total s.left ≡ 0 → Complete s []
  goes-on-by : {s : State} {h : List ℕ} (n : Next) → Memᴰ n (nexts s) → Complete n.state h → Complete s (n.number ∷ h)

-- the state that a branch number leads to; a number that is not legal leads nowhere
abbrev pub led : ℕ → State → List Next → State
led k s [] = s
led k s (n ∷ ns) = cond (eqb k n.number) n.state (led k s ns)

-- a history replayed alone
unfoldable pub replay : State → List ℕ → Term
replay s [] = s.term
replay s (k ∷ h) = replay (led k s (nexts s)) h

-- the kinetic stage and the orders left: each step lowers this
abbrev pub stage : Kind → ℕ
stage Overlap = 0
stage Kinetic = 1
stage Nuclear = 0
stage Moment = 0
stage Coulomb = 0

unfoldable pub depth : State → ℕ
depth s = stage s.kind + total s.left

-- what each next state gives, in turn
unfoldable pub in_turn : {A : Type 0} → (Next → List A) → List Next → List A
in_turn f [] = []
in_turn f (n ∷ ns) = f n ++ in_turn f ns

-- A term's children are expanded in turn before its next sibling. `leaf` is what a state with no order left gives, `joined` what
-- a branch makes of all that its own state gives.
-- The number is the steps that may still be taken: a definition has to be seen to end. It bounds nothing, since each legal step lowers
-- `depth` (step-down in proofs/Walk.antt): `depth s` is enough for every history of `s`, and more gives the same (walk-enough there).
-- So a walk from `depth s` comes to the line of zero only where no order is left, and there gives what the other line gives.
unfoldable pub walk : {A : Type 0} → (State → A) → (Next → List A → List A) → ℕ → State → List A
walk leaf joined zero s = leaf s ∷ []
walk leaf joined (suc d) s = elim (eqb (total s.left) 0) [ true ↦ leaf s ∷ [] | false ↦ in_turn (λ (n : Next). joined n (walk leaf joined d n.state)) (nexts s) ]

abbrev pub term_so_far : State → Term
term_so_far s = s.term

abbrev pub alone : Next → List Term → List Term
alone n ts = ts

-- the list of terms, one for each complete history
unfoldable pub expand : State → List Term
expand s = walk term_so_far alone (depth s) s

abbrev pub nothing_more : State → List ℕ
nothing_more s = []

abbrev pub after : Next → List (List ℕ) → List (List ℕ)
after n hs = map (λ (h : List ℕ). n.number ∷ h) hs

-- the complete histories
unfoldable pub histories : State → List (List ℕ)
histories s = walk nothing_more after (depth s) s

-- dictionary order of branch numbers
pub data Before : List ℕ → List ℕ → Type 0 where
  ends-sooner : {k : ℕ} {h : List ℕ} → Before [] (k ∷ h)
  branches-lower : {j k : ℕ} {g h : List ℕ} → j < k → Before (j ∷ g) (k ∷ h)
  branches-alike : {k : ℕ} {g h : List ℕ} → Before g h → Before (k ∷ g) (k ∷ h)

-- each stands before all that follow it
pub data Ascending : List (List ℕ) → Type 0 where
  no_more : Ascending []
  and_then : {h : List ℕ} {hs : List (List ℕ)} → ((g : List ℕ) → Memᴰ g hs → Before h g) → Ascending hs → Ascending (h ∷ hs)
