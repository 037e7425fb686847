-- What every term of a list keeps: its weights add up to L, and its numbers stay within the limits.
use Prim.Native.Nat.{ℕ, zero, suc, ◌+◌, ◌*◌, ◌-◌, ◌^◌, ◌≤◌, ◌<◌}
use mathlib.Core.Path.{◌≡◌, refl, sym, ap, subst, ◌∙◌}
use mathlib.Core.Logic.{◌⊎◌, inl, inr, ⊎_elim}
use mathlib.Core.Bool.{Bool, false}
use mathlib.Core.List.Memᴰ
use mathlib.Core.List.{List, [], ◌∷◌, ◌++◌, Memᴰ}
use native.Mathlib.Omega.{arith}
use native.Mathlib.Nat.{mul-pos, mul-le-mul, mul-le-mul_left, pow-le-pow_right, le_trans}
use native.Mathlib.Decide.{dec_le}
use lib.ListN.{length, get_or, set, length-append}
use lib.Pow.{pow-add}
use Rattle.kind.specs.declared.Kind.{Kind}
use Rattle.kind.specs.Kinds.{table_of, uses_boys}
use Rattle.kind.specs.Limits.{most_order, most_l·any, most_scale}
use Rattle.term.specs.Terms.{Term}
use Rattle.term.specs.Weights.{weight, weights}
use Rattle.steps.specs.declared.CentreName.{CentreName}
use Rattle.steps.specs.declared.Axis.{Axis}
use Rattle.steps.specs.Choice.{order_place, order_of, operator}
use Rattle.steps.specs.Steps.{Falls, a, a-twice, a-and-b, a-and-c, a-and-d, a-and-o, nothing, Branch, times, less, lowered, partner, other-c, other-d}
use Rattle.laws.specs.Total.{total}
use Rattle.steps.specs.States.{State, Next, start, step, nexts}
use Rattle.histories.specs.History.{depth, expand}
use Rattle.histories.proofs.Orders.{fallen}
use Rattle.histories.specs.inner.OnTheWay.{SmallOrders, Reached}
use Rattle.histories.proofs.Fair.{Fair, boys_step}
use Rattle.histories.proofs.Nexts.{legal}
use Rattle.histories.proofs.Walk.{follows_itself, fair-step, step-total, expand-done, expand-more}
use Rattle.histories.proofs.Demand.{by-depth}
use Rattle.histories.proofs.Ascends.{under}

pub started : (request : Kind) (orders : List ℕ) → SmallOrders orders → Reached request orders (start request orders)
unfolding weights
started request orders h =
    record {
      followed = follows_itself request;
      small = h;
      weighed = omega arith;
      listed = λ (p : ℕ) (m : Memᴰ p []). elim m [ ];
      counted = omega arith;
      boys-most = omega arith;
      boys-none = λ (e : uses_boys request ≡ false). refl;
      scale-least = omega arith;
      scale-most = omega arith;
    }

weights-snoc : (k : Kind) (ps : List ℕ) (p : ℕ) → weights k (ps ++ (p ∷ [])) ≡ weights k ps + weight k p
unfolding weights
weights-snoc k [] p = omega arith
weights-snoc k (q ∷ ps) p = let h = weights-snoc k ps p in omega arith

less-small : (left : List ℕ) (c : CentreName) (x : Axis) → SmallOrders left → SmallOrders (less left c x)
unfolding SmallOrders
less-small left c x h = at left (order_place c x) (order_of left c x - 1) h (let k = h (order_place c x) in omega arith)
  where
    at : (l : List ℕ) (i v : ℕ) → ((j : ℕ) → get_or l j 0 ≤ most_order) → v ≤ most_order → (j : ℕ) → get_or (set l i v) j 0 ≤ most_order
    at [] i v f g j = f j
    at (n ∷ l) zero v f g zero = g
    at (n ∷ l) zero v f g (suc j) = f (suc j)
    at (n ∷ l) (suc i) v f g zero = f zero
    at (n ∷ l) (suc i) v f g (suc j) = at l i v (λ (k : ℕ). f (suc k)) g j

lowered-small : (f : Falls) (c : CentreName) (x : Axis) (left : List ℕ) → SmallOrders left → SmallOrders (lowered f c x left)
unfolding lowered
lowered-small a c x left h = less-small left c x h
lowered-small a-twice c x left h = less-small (less left c x) c x (less-small left c x h)
lowered-small a-and-b c x left h = less-small (less left c x) (partner c) x (less-small left c x h)
lowered-small a-and-c c x left h = less-small (less left c x) (other-c c) x (less-small left c x h)
lowered-small a-and-d c x left h = less-small (less left c x) (other-d c) x (less-small left c x h)
lowered-small a-and-o c x left h = less-small (less left c x) operator x (less-small left c x h)
lowered-small nothing c x left h = h

times-small : (f : Falls) (c : CentreName) (x : Axis) (left : List ℕ) → SmallOrders left → times f c x left ≤ most_order
unfolding times SmallOrders
times-small a c x left h = omega arith
times-small a-twice c x left h = let k = h (order_place c x) in omega arith
times-small a-and-b c x left h = h _
times-small a-and-c c x left h = h _
times-small a-and-d c x left h = h _
times-small a-and-o c x left h = h _
times-small nothing c x left h = omega arith

-- each step with a multiplier above 1 lowers two orders
one-or-two : (f : Falls) (c : CentreName) (x : Axis) (left : List ℕ) → (times f c x left ≡ 1) ⊎ (fallen f ≡ 2)
unfolding times
one-or-two a c x left = inl refl
one-or-two a-twice c x left = inr refl
one-or-two a-and-b c x left = inr refl
one-or-two a-and-c c x left = inr refl
one-or-two a-and-d c x left = inr refl
one-or-two a-and-o c x left = inr refl
one-or-two nothing c x left = inl refl

-- a scale times a multiplier, for any largest order
module _ (most scale m t u : ℕ) (whole : ℕ) (kept : scale * scale * most ^ t ≤ whole) where
  scale-two : t ≡ u + 2 → m ≤ most → scale * m * (scale * m) * most ^ u ≤ whole
  scale-two e h =
      let grows : m * m * most ^ u ≤ most * most * most ^ u = mul-le-mul (mul-le-mul h h) (omega arith) in
      let more = mul-le-mul_left (scale * scale) grows in
      let power : most ^ t ≡ most ^ u * (most ^ 2) = ap (λ (n : ℕ). most ^ n) e ∙ pow-add most u 2 in
      let square : most ^ 2 ≡ most * most = pow-two in
      let there : scale * scale * most ^ t ≡ scale * scale * (most * most * most ^ u) = rw (power, square) (omega arith) in
      omega arith
    where
      pow-two : most ^ 2 ≡ most * most
      pow-two = pow-add most 1 1 ∙ rw one_power
        where
          one_power : most ^ 1 ≡ most
          one_power = native.Mathlib.Nat.pow-suc most 0 ∙ rw native.Mathlib.Nat.pow-zero (omega arith)

  scale_one : u ≤ t → m ≡ 1 → 0 < most → scale * m * (scale * m) * most ^ u ≤ whole
  scale_one h e p =
      let grows = mul-le-mul_left (scale * scale) (pow-le-pow_right p h) in
      rw e (omega arith)

square_le : (n m : ℕ) → n * n ≤ m * m → n ≤ m
square_le n m h = at (dec_le n m)
  where
    at : Dec (n ≤ m) → n ≤ m
    at (yes l) = l
    at (no l) =
        let more : suc m * suc m ≤ n * n = mul-le-mul (omega arith) (omega arith) in
        absurd (omega arith)

-- a legal step keeps all of it
module _ (request : Kind) (orders : List ℕ) (s : State) (c : CentreName) (x : Axis) (b : Branch) (f : Fair request s.kind c b)
    (falls : total (lowered b.falls c x s.left) + fallen b.falls ≡ total s.left) (legal : 0 < times b.falls c x s.left) (r : Reached request orders s) where
  step-boys-none : uses_boys request ≡ false → s.term.boys + b.raises ≡ 0
  step-boys-none e =
      let none : b.raises ≤ 0 = subst (λ (v : Bool). b.raises ≤ boys_step v) e f.raises-boys in
      let before = r.boys-none e in
      omega arith

  step-counted : length (s.term.prefactors ++ (b.adds ∷ [])) + depth (step s c x b) ≤ depth (start request orders)
  unfolding depth step
  step-counted =
      let e = length-append s.term.prefactors (b.adds ∷ []) in
      let d = f.goes_down in
      let k = r.counted in
      omega arith

  step_scale : s.term.scale * times b.falls c x s.left * (s.term.scale * times b.falls c x s.left) * most_order ^ total (lowered b.falls c x s.left) ≤ most_order ^ total orders
  step_scale =
      ⊎_elim
      (λ (e : times b.falls c x s.left ≡ 1).
      scale_one most_order s.term.scale (times b.falls c x s.left) (total s.left) (total (lowered b.falls c x s.left)) (most_order ^ total orders) r.scale-most (omega arith) e (omega arith))
      (λ (e : fallen b.falls ≡ 2).
      scale-two most_order s.term.scale (times b.falls c x s.left) (total s.left) (total (lowered b.falls c x s.left)) (most_order ^ total orders) r.scale-most (omega arith)
      (times-small b.falls c x s.left r.small))
      (one-or-two b.falls c x s.left)

  step-listed : (p : ℕ) → Memᴰ p (s.term.prefactors ++ (b.adds ∷ [])) → p < table_of request
  step-listed p i =
      ⊎_elim (r.listed p) (λ (j : Memᴰ p (b.adds ∷ [])). subst (λ (q : ℕ). q < table_of request) (sym (Memᴰ.eq_of_singleton j)) f.in_table)
      (Memᴰ.append_cases s.term.prefactors i)

  pub step-reached : Reached request orders (step s c x b)
  unfolding step
  step-reached =
      record {
        followed = f.goes_on;
        small = lowered-small b.falls c x s.left r.small;
        weighed = let w = weights-snoc request s.term.prefactors b.adds in let g = f.weighs in let v = r.weighed in omega arith;
        listed = step-listed;
        counted = step-counted;
        boys-most = let g = f.raises-less in let v = r.boys-most in omega arith;
        boys-none = step-boys-none;
        scale-least = mul-pos r.scale-least legal;
        scale-most = step_scale;
      }

pub reached : (request : Kind) (orders : List ℕ) (s : State) (n : Next) → Memᴰ n (nexts s) → Reached request orders s → Reached request orders n.state
unfolding step
reached request orders s n m r =
    let l = legal s n m in
    subst (Reached request orders) (sym l.turn.is)
    (step-reached request orders s l.centre l.axis l.turn.branch (fair-step request s n l r.followed)
    (ap (λ (u : State). total u.left + fallen l.turn.branch.falls) (sym l.turn.is) ∙ step-total s n l)
    l.turn.legal r)

-- what every term of a list keeps
pub record Kept (request : Kind) (orders : List ℕ) (t : Term) : Type 0 where
  pub weighs : weights request t.prefactors ≡ total orders
  pub in_table : (p : ℕ) → Memᴰ p t.prefactors → p < table_of request
  pub count : length t.prefactors ≤ depth (start request orders)
  pub boys : t.boys ≤ total orders
  pub boys-none : uses_boys request ≡ false → t.boys ≡ 0
  pub scale-least : 0 < t.scale
  pub scale-most : t.scale * t.scale ≤ most_order ^ total orders

ended : (request : Kind) (orders : List ℕ) (s : State) → total s.left ≡ 0 → Reached request orders s → Kept request orders s.term
ended request orders s e r =
    record {
      weighs = let v = r.weighed in omega arith;
      in_table = r.listed;
      count = let v = r.counted in omega arith;
      boys = let v = r.boys-most in omega arith;
      boys-none = r.boys-none;
      scale-least = r.scale-least;
      scale-most = let v : s.term.scale * s.term.scale * most_order ^ 0 ≤ most_order ^ total orders = subst (λ (n : ℕ). s.term.scale * s.term.scale * most_order ^ n ≤ most_order ^ total orders) e r.scale-most in omega arith;
    }

pub kept : (request : Kind) (orders : List ℕ) (s : State) → Reached request orders s → (t : Term) → Memᴰ t (expand s) → Kept request orders t
kept request orders =
    by-depth (λ (s : State). Reached request orders s → (t : Term) → Memᴰ t (expand s) → Kept request orders t)
    (λ (s : State) (e : total s.left ≡ 0) (r : Reached request orders s) (t : Term) (m : Memᴰ t (expand s)).
    subst (Kept request orders) (sym (Memᴰ.eq_of_singleton (subst (Memᴰ t) (expand-done s e) m))) (ended request orders s e r))
    (λ (s : State) (e : total s.left ≡ 0 → ⊥) (ih : (n : Next) → Memᴰ n (nexts s) → Reached request orders n.state → (t : Term) → Memᴰ t (expand n.state) → Kept request orders t)
    (r : Reached request orders s) (t : Term) (m : Memᴰ t (expand s)).
    let u = under (λ (n : Next). expand n.state) (nexts s) t (subst (Memᴰ t) (expand-more s e) m) in
    ih u.next u.in_row (reached request orders s u.next u.in_row r) t u.inside)

-- demand 3, of the terms of a request whose orders are within the limits
pub terms-kept : (request : Kind) (orders : List ℕ) → SmallOrders orders → (t : Term) → Memᴰ t (expand (start request orders)) → Kept request orders t
terms-kept request orders h = kept request orders (start request orders) (started request orders h)

-- the scale is at most the limit
pub scale-limit : (request : Kind) (orders : List ℕ) (t : Term) → Kept request orders t → total orders ≤ most_l·any → t.scale ≤ most_scale
scale-limit request orders t k h =
    square_le t.scale most_scale (le_trans k.scale-most (pow-le-pow_right (omega arith) h))

-- the scale of a state on the way is at most the limit too
pub scale-on-the-way : (request : Kind) (orders : List ℕ) (s : State) → Reached request orders s → total orders ≤ most_l·any → s.term.scale ≤ most_scale
scale-on-the-way request orders s r h =
    let power : 1 ≤ most_order ^ total s.left = pow-le-pow_right {n = most_order} (omega arith) {i = 0} (omega arith) in
    let grows = mul-le-mul_left (s.term.scale * s.term.scale) power in
    let whole = r.scale-most in
    let most = pow-le-pow_right {n = most_order} (omega arith) h in
    square_le s.term.scale most_scale (omega arith)
