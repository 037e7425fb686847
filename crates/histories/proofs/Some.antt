-- A list is never empty: where orders are left that the kind uses, branch 0 is legal.
use Prim.Native.Nat.{ℕ, zero, suc, ◌+◌, ◌-◌, ◌≤◌, ◌<◌}
use mathlib.Core.Path.{◌≡◌, refl, sym, ap, subst, ◌∙◌}
use mathlib.Core.Bool.{true, cond}
use mathlib.Core.List.{List, [], ◌∷◌, Memᴰ}
use native.Mathlib.Omega.{arith}
use native.Mathlib.Nat.{add-zero}
use lib.ListN.{length, get_or, set, drop, length-append}
use lib.Seq.{get_or-drop}
use Rattle.std.specs.Prelude.{Option, Some, None}
use Rattle.laws.proofs.Cases.{clash}
use Rattle.laws.proofs.Totals.{get_or-le-total}
use Rattle.kind.specs.declared.Kind.{Kind}
use Rattle.kind.specs.declared.Kind.TheVariants.{Overlap, Kinetic, Nuclear, Moment, Coulomb}
use Rattle.kind.specs.Kinds.{orders_of}
use Rattle.term.specs.Terms.{Term}
use Rattle.steps.specs.declared.CentreName.{CentreName}
use Rattle.steps.specs.declared.CentreName.TheVariants.{A, B, C, D}
use Rattle.steps.specs.declared.Axis.{Axis}
use Rattle.steps.specs.declared.Axis.TheVariants.{X, Y, Z}
use Rattle.steps.specs.Choice.{operator, order_place, sum_of, chosen, first_axis}
use Rattle.steps.specs.Chosen.{centres_of, operator_of, Exhausted, RightCentre, a-centre, the-operator, no-centre, RightAxis, along, no-axis}
use Rattle.steps.proofs.Rightly.{chosen-rightly, axis-rightly}
use Rattle.steps.specs.Steps.{Falls, a, a-twice, a-and-b, a-and-c, a-and-d, a-and-o, nothing, Branch, branches, times, less, lowered, partner, other-c, other-d}
use Rattle.laws.specs.Total.{total}
use Rattle.steps.specs.States.{State, Next, step, if_legal, turns, on_axis, on_fun, nexts}
use Rattle.histories.specs.History.{in_turn, expand}
use Rattle.histories.proofs.Nexts.{legal}
use Rattle.histories.specs.inner.OnTheWay.{follows, own}
use Rattle.histories.proofs.Choices.{chosen-own}
use Rattle.histories.proofs.Walk.{follows_itself, fair-step, expand-done, expand-more}
use Rattle.histories.proofs.Demand.{by-depth}

-- the orders that a kind leaves unused are 0
unfoldable pub Unused : Kind → List ℕ → Type 0
Unused k left = (i : ℕ) → orders_of k ≤ i → get_or left i 0 ≡ 0

-- they are 0 where they add up to 0
pub unused-zero : (k : Kind) (left : List ℕ) → total (drop (orders_of k) left) ≡ 0 → Unused k left
unfolding Unused
unused-zero k left none i h =
    let d : get_or (drop (orders_of k) left) (i - orders_of k) 0 ≡ get_or left i 0 = get_or-drop (orders_of k) left (i - orders_of k) 0 ∙ ap (λ (j : ℕ). get_or left j 0) back in
    let l = get_or-le-total (drop (orders_of k) left) (i - orders_of k) in
    omega arith
  where
    back : orders_of k + (i - orders_of k) ≡ i
    back = omega arith

-- the centre chosen has an order left
chosen-positive : (k : Kind) (left : List ℕ) (c : CentreName) → chosen k left ≡ Some c → 0 < sum_of left c
chosen-positive k left c = by (chosen k left) (chosen-rightly left k)
  where
    by : (v : Option CentreName) → RightCentre k left v → v ≡ Some c → 0 < sum_of left c
    by v (a-centre d s) e = let same : d ≡ c = cc in subst (λ (b : CentreName). 0 < sum_of left b) same s.positive
    by v (the-operator o out s) e = let same : o ≡ c = cc in subst (λ (b : CentreName). 0 < sum_of left b) same s.positive
    by v (no-centre out rest) e = absurd (clash (cc))

-- none is chosen only where no order is left on any
record AllOut (k : Kind) (left : List ℕ) : Type 0 where
  centres : Exhausted left (centres_of k)
  operator : Exhausted left (operator_of k)

all_out : (k : Kind) (left : List ℕ) → chosen k left ≡ None → AllOut k left
all_out k left = by (chosen k left) (chosen-rightly left k)
  where
    by : (v : Option CentreName) → RightCentre k left v → v ≡ None → AllOut k left
    by v (a-centre c s) e = absurd (clash (cc))
    by v (the-operator o out s) e = absurd (clash (cc))
    by v (no-centre out rest) e = record { centres = out; operator = rest }

axis-there : (left : List ℕ) (c : CentreName) → 0 < sum_of left c → first_axis left c ≡ None → ⊥
axis-there left c h = by (first_axis left c) (axis-rightly left c)
  where
    by : (v : Option Axis) → RightAxis left c v → v ≡ None → ⊥
    by v (along x p before) e = clash (cc)
    by v (no-axis all) e = let x = all X in let y = all Y in let z = all Z in omega arith

-- zeros from a centre's last order on, and its sum 0, are zeros from its first order on
from-centre : (left : List ℕ) (m : ℕ) → get_or left m 0 + get_or left (m + 1) 0 + get_or left (m + 2) 0 ≡ 0 → ((i : ℕ) → m + 3 ≤ i → get_or left i 0 ≡ 0) → (i : ℕ) → m ≤ i → get_or left i 0 ≡ 0
from-centre left m s u i h = at (i - m) (omega arith)
  where
    at : (d : ℕ) → i ≡ m + d → get_or left i 0 ≡ 0
    at zero e = ap (λ (n : ℕ). get_or left n 0) (e ∙ add-zero m) ∙ omega arith
    at (suc zero) e = ap (λ (n : ℕ). get_or left n 0) e ∙ omega arith
    at (suc (suc zero)) e = ap (λ (n : ℕ). get_or left n 0) e ∙ omega arith
    at (suc (suc (suc d))) e = u i (omega arith)

-- where no centre is chosen, no order is left
module _ (left : List ℕ) where
  two-zero : ((i : ℕ) → 6 ≤ i → get_or left i 0 ≡ 0) → Exhausted left (A ∷ B ∷ []) → (i : ℕ) → get_or left i 0 ≡ 0
  two-zero u out i =
      from-centre left 0 (out A (Memᴰ.head refl))
      (from-centre left 3 (out B (Memᴰ.tail (Memᴰ.head refl))) u) i (omega arith)

  all-zero : (k : Kind) → ((i : ℕ) → orders_of k ≤ i → get_or left i 0 ≡ 0) → AllOut k left → (i : ℕ) → get_or left i 0 ≡ 0
  all-zero Overlap u out i = two-zero u out.centres i
  all-zero Kinetic u out i = two-zero u out.centres i
  all-zero Nuclear u out i = two-zero u out.centres i
  all-zero Moment u out i = two-zero (from-centre left 6 (out.operator C (Memᴰ.head refl)) u) out.centres i
  all-zero Coulomb u out i =
      from-centre left 0 (out.centres A (Memᴰ.head refl))
      (from-centre left 3 (out.centres B (Memᴰ.tail (Memᴰ.head refl)))
      (from-centre left 6 (out.centres C (Memᴰ.tail (Memᴰ.tail (Memᴰ.head refl))))
      (from-centre left 9 (out.centres D (Memᴰ.tail (Memᴰ.tail (Memᴰ.tail (Memᴰ.head refl))))) u))) i (omega arith)

zero-total : (left : List ℕ) → ((i : ℕ) → get_or left i 0 ≡ 0) → total left ≡ 0
unfolding total
zero-total [] h = refl
zero-total (n ∷ left) h = let a = h 0 in let b = zero-total left (λ (i : ℕ). h (suc i)) in omega arith

-- orders only fall
less-at-most : (l : List ℕ) (i : ℕ) (j : ℕ) → get_or (set l i (get_or l i 0 - 1)) j 0 ≤ get_or l j 0
less-at-most [] i j = omega arith
less-at-most (n ∷ l) zero zero = omega arith
less-at-most (n ∷ l) zero (suc j) = omega arith
less-at-most (n ∷ l) (suc i) zero = omega arith
less-at-most (n ∷ l) (suc i) (suc j) = less-at-most l i j

two-at-most : (left : List ℕ) (c d : CentreName) (x : Axis) (j : ℕ) → get_or (less (less left c x) d x) j 0 ≤ get_or left j 0
two-at-most left c d x j = let a = less-at-most (less left c x) (order_place d x) j in let b = less-at-most left (order_place c x) j in omega arith

lowered-at-most : (f : Falls) (c : CentreName) (x : Axis) (left : List ℕ) (j : ℕ) → get_or (lowered f c x left) j 0 ≤ get_or left j 0
unfolding lowered
lowered-at-most a c x left j = less-at-most left (order_place c x) j
lowered-at-most a-twice c x left j = two-at-most left c c x j
lowered-at-most a-and-b c x left j = two-at-most left c (partner c) x j
lowered-at-most a-and-c c x left j = two-at-most left c (other-c c) x j
lowered-at-most a-and-d c x left j = two-at-most left c (other-d c) x j
lowered-at-most a-and-o c x left j = two-at-most left c operator x j
lowered-at-most nothing c x left j = omega arith

-- what a state goes on as uses the same orders
same-orders : (k j : Kind) → follows k j ≡ true → orders_of j ≡ orders_of k
same-orders Overlap Overlap e = refl
same-orders Overlap Kinetic e = cc
same-orders Overlap Nuclear e = cc
same-orders Overlap Moment e = cc
same-orders Overlap Coulomb e = cc
same-orders Kinetic Overlap e = refl
same-orders Kinetic Kinetic e = refl
same-orders Kinetic Nuclear e = cc
same-orders Kinetic Moment e = cc
same-orders Kinetic Coulomb e = cc
same-orders Nuclear Overlap e = cc
same-orders Nuclear Kinetic e = cc
same-orders Nuclear Nuclear e = refl
same-orders Nuclear Moment e = cc
same-orders Nuclear Coulomb e = cc
same-orders Moment Overlap e = cc
same-orders Moment Kinetic e = cc
same-orders Moment Nuclear e = cc
same-orders Moment Moment e = refl
same-orders Moment Coulomb e = cc
same-orders Coulomb Overlap e = cc
same-orders Coulomb Kinetic e = cc
same-orders Coulomb Nuclear e = cc
same-orders Coulomb Moment e = cc
same-orders Coulomb Coulomb e = refl

pub unused-kept : (s : State) (n : Next) → Memᴰ n (nexts s) → Unused s.kind s.left → Unused n.state.kind n.state.left
unfolding Unused step
unused-kept s n m u i h =
    let l = legal s n m in
    let f = fair-step s.kind s n l (follows_itself s.kind) in
    let kinds : orders_of n.state.kind ≡ orders_of s.kind = ap (λ (t : State). orders_of t.kind) l.turn.is ∙ same-orders s.kind (cond l.turn.branch.as-overlap Overlap s.kind) f.goes_on in
    let lists : get_or n.state.left i 0 ≡ get_or (lowered l.turn.branch.falls l.centre l.axis s.left) i 0 = ap (λ (t : State). get_or t.left i 0) l.turn.is in
    let most = lowered-at-most l.turn.branch.falls l.centre l.axis s.left i in
    let none = u i (omega arith) in
    omega arith

-- branch 0 of a centre of the kind is always there and always legal
first-branch : (k : Kind) (c : CentreName) (x : Axis) → own k c ≡ true → (b : Branch) × (bs : List Branch) × (branches k c x ≡ b ∷ bs) × (b.falls ≡ a)
unfolding branches
first-branch Overlap c x o = (_, _, refl, refl)
first-branch Kinetic c x o = (_, _, refl, refl)
first-branch Nuclear c x o = (_, _, refl, refl)
first-branch Moment A x o = (_, _, refl, refl)
first-branch Moment B x o = (_, _, refl, refl)
first-branch Moment C x o = (_, _, refl, refl)
first-branch Moment D x o = absurd (clash (cc))
first-branch Coulomb c x o = (_, _, refl, refl)

times-one : (c : CentreName) (x : Axis) (left : List ℕ) → times a c x left ≡ 1
unfolding times
times-one c x left = refl

first-turn : (s : State) (c : CentreName) (x : Axis) (b : Branch) (bs : List Branch) → b.falls ≡ a → (n : Next) × Memᴰ n (turns c x 0 s (b ∷ bs))
unfolding turns
first-turn s c x b bs e = (
  record { number = 0; state = step s c x b },
  subst (λ (v : ℕ). Memᴰ (record { number = 0; state = step s c x b }) (if_legal v (record { number = 0; state = step s c x b }) (turns c x 1 s bs))) (sym one) (Memᴰ.head refl),
)
  where
    one : times b.falls c x s.left ≡ 1
    one = ap (λ (f : Falls). times f c x s.left) e ∙ times-one c x s.left

pub some_next : (s : State) → Unused s.kind s.left → (total s.left ≡ 0 → ⊥) → (n : Next) × Memᴰ n (nexts s)
unfolding Unused nexts
some_next s u some = by-fun (chosen s.kind s.left) refl
  where
    on-branches : (c : CentreName) (x : Axis) → own s.kind c ≡ true → (n : Next) × Memᴰ n (turns c x 0 s (branches s.kind c x))
    on-branches c x o = let f = first-branch s.kind c x o in subst (λ (bs : List Branch). (n : Next) × Memᴰ n (turns c x 0 s bs)) (sym f.2) (first-turn s c x f.0 f.1 f.3)

    by-axis : (c : CentreName) → chosen s.kind s.left ≡ Some c → (v : Option Axis) → first_axis s.left c ≡ v → (n : Next) × Memᴰ n (on_axis c v s)
    by-axis c e None f = absurd (axis-there s.left c (chosen-positive s.kind s.left c e) f)
    by-axis c e (Some x) f = on-branches c x (chosen-own s.kind s.left c e)

    by-fun : (v : Option CentreName) → chosen s.kind s.left ≡ v → (n : Next) × Memᴰ n (on_fun v s)
    by-fun None e = absurd (some (zero-total s.left (all-zero s.left s.kind u (all_out s.kind s.left e))))
    by-fun (Some c) e = by-axis c e (first_axis s.left c) refl

over-longer : (f : Next → List Term) (ns : List Next) (n : Next) → Memᴰ n ns → length (f n) ≤ length (in_turn f ns)
unfolding in_turn
over-longer f (m ∷ ns) n (Memᴰ.head e) = let h = length-append (f m) (in_turn f ns) in let g = ap (λ (p : Next). length (f p)) e in omega arith
over-longer f [] n x' = elim x' [ ]
over-longer f (m ∷ ns) n (Memᴰ.tail i) = let h = length-append (f m) (in_turn f ns) in let g = over-longer f ns n i in omega arith

-- at least one term
pub some-term : (s : State) → Unused s.kind s.left → 1 ≤ length (expand s)
some-term =
    by-depth (λ (s : State). Unused s.kind s.left → 1 ≤ length (expand s))
    (λ (s : State) (e : total s.left ≡ 0) (u : Unused s.kind s.left). let h = ap length (expand-done s e) in omega arith)
    (λ (s : State) (e : total s.left ≡ 0 → ⊥) (ih : (n : Next) → Memᴰ n (nexts s) → Unused n.state.kind n.state.left → 1 ≤ length (expand n.state)) (u : Unused s.kind s.left).
    let n = some_next s u e in
    let here = ih n.0 n.1 (unused-kept s n.0 n.1 u) in
    let more = over-longer (λ (m : Next). expand m.state) (nexts s) n.0 n.1 in
    let h = ap length (expand-more s e) in
    omega arith)
