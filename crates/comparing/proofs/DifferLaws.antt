-- The count: each step leaves fewer terms, so as many steps as there are terms give all that there is.
use Prim.Native.Nat.{ℕ, zero, suc, ◌+◌, ◌-◌, ◌*◌, ◌^◌, ◌≤◌, ◌<◌}
use native.Mathlib.Omega.{arith}
use mathlib.Core.Path.{◌≡◌, refl, sym, ap, ap₂, ◌∙◌}
use mathlib.Core.Bool.{Bool, not}
use mathlib.Core.List.{List, [], ◌∷◌}
use lib.Dec.{eqb}
use lib.ListN.{length, take}
use Rattle.std.specs.Prelude.{Option, Some, None, Ok, Err}
use Rattle.std.specs.Cmp.Lexicographic.{pointwise}
use Rattle.kind.specs.Limits.{most_terms, request_orders}
use Rattle.kind.specs.Kinds.{kind_of, orders_of}
use Rattle.kind.specs.declared.Kind.{Kind}
use Rattle.kind.specs.declared.Kind.TheVariants.{Overlap, Kinetic, Nuclear, Moment, Coulomb}
use Rattle.laws.proofs.Cases.{clash, tested}
use Rattle.form2.specs.declared.cursor.Step2.{Step2}
use Rattle.form2.specs.Cursor.{Stepped2}
use Rattle.comparing.specs.declared.pair.Line.TheVariants as line
use Rattle.comparing.specs.declared.pair.Pair.{Pair}
use Rattle.comparing.specs.declared.pair.Met.{Met}
use Rattle.comparing.specs.declared.sides.Sided.{Sided}
use Rattle.comparing.specs.Sides.{step_side}
use Rattle.laws.specs.Same.{same_numbers}
use Rattle.comparing.specs.Pairs.{same_line, Answered, met_by, turn_as, turn_of, over_same, met_from, next_of, lines_with, terms_left, lines_from, lines_of}
use Rattle.comparing.specs.Answers.{used_as, used_of}
use Rattle.comparing.proofs.PairLaws.{numbers-pointwise}
use Rattle.comparing.proofs.SidesLaws.{step_falls}

-- ---- each position leaves fewer terms

abbrev Falls : ℕ → ℕ → Type 0
Falls before after = (0 < before) × (after ≡ before - 1)

turn-falls-as : (a b : Stepped2) (p : Pair) (m : Met) → ((l : Step2) → a ≡ Ok (Some l) → Falls p.left.cursor.left l.next.cursor.left) → ((r : Step2) → b ≡ Ok (Some r) → Falls p.right.cursor.left r.next.cursor.left) → turn_as a b p ≡ Ok (Some m) → terms_left m.next < terms_left p
turn-falls-as (Err e) b p m left right is = absurd (clash (cc))
turn-falls-as (Ok a) (Err e) p m left right is = absurd (clash (cc))
turn-falls-as (Ok (Some l)) (Ok (Some r)) p m left right is =
    let f = left l refl in
    let g = right r refl in
    let same : met_by p.number (line.Both l.term r.term) l.next r.next ≡ m = cc in
    let next : terms_left m.next ≡ l.next.cursor.left + r.next.cursor.left = ap (λ (m : Met). terms_left m.next) (sym same) in
    omega (arith, f.0, f.1, g.0, g.1, next)
turn-falls-as (Ok (Some l)) (Ok None) p m left right is =
    let f = left l refl in
    let same : met_by p.number (line.Left l.term) l.next p.right ≡ m = cc in
    let next : terms_left m.next ≡ l.next.cursor.left + p.right.cursor.left = ap (λ (m : Met). terms_left m.next) (sym same) in
    omega (arith, f.0, f.1, next)
turn-falls-as (Ok None) (Ok (Some r)) p m left right is =
    let g = right r refl in
    let same : met_by p.number (line.Right r.term) p.left r.next ≡ m = cc in
    let next : terms_left m.next ≡ p.left.cursor.left + r.next.cursor.left = ap (λ (m : Met). terms_left m.next) (sym same) in
    omega (arith, g.0, g.1, next)
turn-falls-as (Ok None) (Ok None) p m left right is = absurd (clash (cc))

turn-falls : (p : Pair) (s t : List ℕ) (m : Met) → turn_of p s t ≡ Ok (Some m) → terms_left m.next < terms_left p
unfolding turn_of
turn-falls p s t m is = turn-falls-as (step_side p.left s) (step_side p.right t) p m (λ l h. step_falls p.left s l h) (λ r h. step_falls p.right t r h) is

over-falls : (x : Answered) (p : Pair) (m : Met) (rest : Pair → Answered) → ((o : Met) → x ≡ Ok (Some o) → terms_left o.next < terms_left p) → ((q : Pair) → rest q ≡ Ok (Some m) → terms_left m.next < terms_left q) → over_same x rest ≡ Ok (Some m) → terms_left m.next < terms_left p
over-falls (Ok (Some o)) p m rest here behind is =
    tested (same_line o.line)
    (λ on.
    let first = here o refl in
    let then = behind o.next (rw on at is) in
    omega (arith, first, then))
    (λ off. here m (rw off at is))
over-falls (Ok None) p m rest here behind is = absurd (clash (cc))
over-falls (Err e) p m rest here behind is = absurd (clash (cc))

met-falls : (n : ℕ) (p : Pair) (s t : List ℕ) (m : Met) → met_from n p s t ≡ Ok (Some m) → terms_left m.next < terms_left p
unfolding met_from
met-falls zero p s t m is = turn-falls p s t m is
met-falls (suc n) p s t m is = over-falls (turn_of p s t) p m (λ q. met_from n q s t) (λ o h. turn-falls p s t o h) (λ q h. met-falls n q s t m h) is

pub line-falls : (p : Pair) (s t : List ℕ) (m : Met) → next_of p s t ≡ Ok (Some m) → terms_left m.next < terms_left p
unfolding next_of
line-falls p s t m is = met-falls p.left.cursor.left p s t m is

-- ---- as many steps as there are terms give all lines, and no further step gives more

lines-by : (x : Answered) (f g : Pair → List Met) → ((m : Met) → x ≡ Ok (Some m) → f m.next ≡ g m.next) → lines_with x f ≡ lines_with x g
lines-by (Ok (Some m)) f g same = ap (λ (ms : List Met). m ∷ ms) (same m refl)
lines-by (Ok None) f g same = refl
lines-by (Err e) f g same = refl

lines-none : (x : Answered) (f : Pair → List Met) → ((m : Met) → x ≡ Ok (Some m) → ⊥) → lines_with x f ≡ []
lines-none (Ok (Some m)) f never = absurd (never m refl)
lines-none (Ok None) f never = refl
lines-none (Err e) f never = refl

lines_same : (n m : ℕ) (p : Pair) (s t : List ℕ) → terms_left p ≤ n → terms_left p ≤ m → lines_from n p s t ≡ lines_from m p s t
unfolding lines_from
lines_same zero zero p s t a b = refl
lines_same zero (suc m) p s t a b = sym (lines-none (next_of p s t) (λ q. lines_from m q s t) (λ x is. let less = line-falls p s t x is in omega (arith, less)))
lines_same (suc n) zero p s t a b = lines-none (next_of p s t) (λ q. lines_from n q s t) (λ x is. let less = line-falls p s t x is in omega (arith, less))
lines_same (suc n) (suc m) p s t a b =
    lines-by (next_of p s t) (λ q. lines_from n q s t) (λ q. lines_from m q s t)
    (λ x is. let fewer = line-falls p s t x is in lines_same n m x.next s t (omega (arith, fewer)) (omega (arith, fewer)))

pub lines-enough : (n : ℕ) (p : Pair) (s t : List ℕ) → terms_left p ≤ n → lines_from n p s t ≡ lines_of p s t
unfolding lines_of
lines-enough n p s t enough = lines_same n (terms_left p) p s t enough (omega arith)

-- the lines from a pair on are what a step meets, and those behind it
lines-behind : (p : Pair) (s t : List ℕ) → lines_from (suc (terms_left p)) p s t ≡ lines_with (next_of p s t) (λ q. lines_of q s t)
unfolding lines_from
lines-behind p s t =
    lines-by (next_of p s t) (λ q. lines_from (terms_left p) q s t) (λ q. lines_of q s t)
    (λ x is. let fewer = line-falls p s t x is in lines-enough (terms_left p) x.next s t (omega (arith, fewer)))

pub lines-turn : (p : Pair) (s t : List ℕ) → lines_of p s t ≡ lines_with (next_of p s t) (λ q. lines_of q s t)
lines-turn p s t = sym (lines-enough (suc (terms_left p)) p s t (omega arith)) ∙ lines-behind p s t

-- by what a step meets
pub lines-met : (p : Pair) (s t : List ℕ) (m : Met) → next_of p s t ≡ Ok (Some m) → lines_of p s t ≡ m ∷ lines_of m.next s t
lines-met p s t m is = lines-turn p s t ∙ ap (λ (x : Answered). lines_with x (λ q. lines_of q s t)) is

lines-few-with : (n : ℕ) (x : Answered) (f : Pair → List Met) → ((q : Pair) → length (f q) ≤ n) → length (lines_with x f) ≤ suc n
lines-few-with n (Ok (Some m)) f few = omega (arith, few m.next)
lines-few-with n (Ok None) f few = omega arith
lines-few-with n (Err e) f few = omega arith

lines-few : (n : ℕ) (p : Pair) (s t : List ℕ) → length (lines_from n p s t) ≤ n
unfolding lines_from
lines-few zero p s t = omega arith
lines-few (suc n) p s t = lines-few-with n (next_of p s t) (λ q. lines_from n q s t) (λ q. lines-few n q s t)

pub lines-within : (p : Pair) (s t : List ℕ) → length (lines_of p s t) ≤ terms_left p
unfolding lines_of
lines-within p s t = lines-few (terms_left p) p s t

-- ---- the count

-- the loop's invariant: what is counted and what is left are all
pub record Counting (s t : List ℕ) (first p : Pair) (n : ℕ) : Type 0 where
  pub sum : n + length (lines_of p s t) ≡ length (lines_of first s t)

pub counting-first : (s t : List ℕ) (p : Pair) → Counting s t p p 0
counting-first s t p = record { sum = omega arith }

module _ (s t : List ℕ) (first p : Pair) (n : ℕ) (x : Answered) (o : Option Met) where
  met-is : (m : Met) → x ≡ next_of p s t → x ≡ Ok o → o ≡ Some m → next_of p s t ≡ Ok (Some m)
  met-is m is ok some = sym is ∙ ok ∙ ap (λ (o : Option Met). Ok o) some

  line-more : (m : Met) → x ≡ next_of p s t → x ≡ Ok o → o ≡ Some m → length (lines_of p s t) ≡ suc (length (lines_of m.next s t))
  line-more m is ok some = ap length (lines-met p s t m (met-is m is ok some))

  pub counting_more : (m : Met) → Counting s t first p n → x ≡ next_of p s t → x ≡ Ok o → o ≡ Some m → Counting s t first m.next (n + 1)
  counting_more m c is ok some = record { sum = omega (arith, c.sum, line-more m is ok some) }

  pub counting-fits : (m : Met) → terms_left first ≤ 2 * most_terms → Counting s t first p n → x ≡ next_of p s t → x ≡ Ok o → o ≡ Some m → n + 1 < 2 ^ 32
  counting-fits m few c is ok some = omega (arith, c.sum, line-more m is ok some, lines-within first s t)

  pub counting-done : Counting s t first p n → x ≡ next_of p s t → x ≡ Ok o → o ≡ None → n ≡ length (lines_of first s t)
  counting-done c is ok none =
      let left : lines_of p s t ≡ [] = lines-turn p s t ∙ ap (λ (x : Answered). lines_with x (λ q. lines_of q s t)) (sym is ∙ ok ∙ ap (λ (o : Option Met). Ok o) none) in
      let end : length (lines_of p s t) ≡ 0 = ap length left in
      omega (arith, c.sum, end)

pub counting-less : (s t : List ℕ) (p : Pair) (x : Answered) (o : Option Met) (m : Met) → x ≡ next_of p s t → x ≡ Ok o → o ≡ Some m → terms_left m.next < terms_left p
counting-less s t p x o m is ok some = line-falls p s t m (sym is ∙ ok ∙ ap (λ (o : Option Met). Ok o) some)

pub counting-refused : (s t : List ℕ) (first p : Pair) (n : ℕ) (x : Answered) (d : Sided) → Counting s t first p n → x ≡ next_of p s t → x ≡ Err d → n ≡ length (lines_of first s t)
counting-refused s t first p n x d c is e =
    let left : lines_of p s t ≡ [] = lines-turn p s t ∙ ap (λ (x : Answered). lines_with x (λ q. lines_of q s t)) (sym is ∙ e) in
    let end : length (lines_of p s t) ≡ 0 = ap length left in
    omega (arith, c.sum, end)

-- ---- orders

pub used-is : (kind : ℕ) (m : Option Kind) (k : Kind) (n : ℕ) → m ≡ kind_of kind → m ≡ Some k → n ≡ orders_of k → n ≡ used_of kind
unfolding used_of
used-is kind m k n is e count = count ∙ ap used_as (sym e ∙ is)

pub used-unknown : (kind : ℕ) (m : Option Kind) → m ≡ kind_of kind → m ≡ None → request_orders ≡ used_of kind
unfolding used_of
used-unknown kind m is e = ap used_as (sym e ∙ is)

few-orders : (m : Option Kind) → used_as m ≤ request_orders
few-orders (Some Overlap) = omega arith
few-orders (Some Kinetic) = omega arith
few-orders (Some Nuclear) = omega arith
few-orders (Some Moment) = omega arith
few-orders (Some Coulomb) = omega arith
few-orders None = omega arith

pub used-few : (kind n : ℕ) (os : List ℕ) → n ≡ used_of kind → length os ≡ request_orders → n ≤ length os
unfolding used_of
used-few kind n os is long = omega (arith, few-orders (kind_of kind))

pub orders-other : (a b n m : ℕ) (l r : List ℕ) (x : Bool) → n ≡ used_of a → m ≡ used_of b → x ≡ not (pointwise eqb (take (n - 0) l) (take (m - 0) r)) → x ≡ not (same_numbers (take (used_of a) l) (take (used_of b) r))
orders-other a b n m l r x one two is =
    let first : n - 0 ≡ used_of a = omega (arith, one) in
    let second : m - 0 ≡ used_of b = omega (arith, two) in
    is
    ∙ ap not (numbers-pointwise (take (n - 0) l) (take (m - 0) r))
    ∙ ap₂ (λ (i j : ℕ). not (same_numbers (take i l) (take j r))) first second
