-- What a legal step is made of: the chosen centre, its axis, a branch of the kind there and its multiplier.
use Prim.Native.Nat.{ℕ, zero, suc, ◌≤◌, ◌<◌}
use mathlib.Core.Path.{◌≡◌, refl, ap}
use mathlib.Core.List.{List, [], ◌∷◌, Memᴰ}
use native.Mathlib.Omega.{arith}
use Rattle.std.specs.Prelude.{Option, Some, None}
use Rattle.steps.specs.declared.CentreName.{CentreName}
use Rattle.steps.specs.declared.Axis.{Axis}
use Rattle.steps.specs.Choice.{chosen, first_axis}
use Rattle.steps.specs.Steps.{Branch, branches, times}
use Rattle.steps.specs.States.{State, Next, step, if_legal, turns, on_axis, on_fun, nexts}

pub record TurnOf (c : CentreName) (x : Axis) (k : ℕ) (s : State) (bs : List Branch) (n : Next) : Type 0 where
  pub branch : Branch
  pub among : Memᴰ branch bs
  pub legal : 0 < times branch.falls c x s.left
  pub is : n.state ≡ step s c x branch
  pub from : k ≤ n.number

pub turn-of : (c : CentreName) (x : Axis) (k : ℕ) (s : State) (bs : List Branch) (n : Next) → Memᴰ n (turns c x k s bs) → TurnOf c x k s bs n
unfolding turns
turn-of c x k s [] n m = elim m [ ]
turn-of c x k s (b ∷ bs) n m = go (times b.falls c x s.left) refl m (λ (m' : Memᴰ n (turns c x (suc k) s bs)). turn-of c x (suc k) s bs n m')
  where
    later : TurnOf c x (suc k) s bs n → TurnOf c x k s (b ∷ bs) n
    later t = record { branch = t.branch; among = Memᴰ.tail t.among; legal = t.legal; is = t.is; from = omega arith }

    go : (v : ℕ) → times b.falls c x s.left ≡ v → Memᴰ n (if_legal v (record { number = k; state = step s c x b }) (turns c x (suc k) s bs))
        → (Memᴰ n (turns c x (suc k) s bs) → TurnOf c x (suc k) s bs n) → TurnOf c x k s (b ∷ bs) n
    go zero e m' ih = later (ih m')
    go (suc v) e (Memᴰ.head f) ih = record { branch = b; among = Memᴰ.head refl; legal = omega arith; is = ap (λ (p : Next). p.state) f; from = omega (arith, ap (λ (p : Next). p.number) f) }
    go (suc v) e (Memᴰ.tail m') ih = later (ih m')

-- a legal step where a state stands
pub record Legal (s : State) (n : Next) : Type 0 where
  pub centre : CentreName
  pub axis : Axis
  pub picked : chosen s.kind s.left ≡ Some centre
  pub along : first_axis s.left centre ≡ Some axis
  pub turn : TurnOf centre axis 0 s (branches s.kind centre axis) n

pub legal : (s : State) (n : Next) → Memᴰ n (nexts s) → Legal s n
unfolding nexts
legal s n m = fun (chosen s.kind s.left) refl m
  where
    axis : (c : CentreName) (v : Option Axis) → chosen s.kind s.left ≡ Some c → first_axis s.left c ≡ v → Memᴰ n (on_axis c v s) → Legal s n
    axis c None p e m' = elim m' [ ]
    axis c (Some x) p e m' = record { centre = c; axis = x; picked = p; along = e; turn = turn-of c x 0 s (branches s.kind c x) n m' }

    fun : (v : Option CentreName) → chosen s.kind s.left ≡ v → Memᴰ n (on_fun v s) → Legal s n
    fun None e m' = elim m' [ ]
    fun (Some c) e m' = axis c (first_axis s.left c) e refl m'
