-- The functions of src/header.rt: the loop over the orders, and the kind, orders and term count put together.
use Prim.Native.Nat.{ℕ, zero, suc, zero-le, ◌+◌, ◌*◌, ◌-◌, ◌%◌, ◌≤◌, ◌<◌}
use mathlib.Core.Path.{◌≡◌, refl, sym, ap, ◌∙◌}
use mathlib.Core.Bool.{Bool, true, false, cond}
use mathlib.Core.List.{List, [], ◌∷◌, ◌++◌, append-nil}
use native.Mathlib.Omega.{arith}
use borrow.Author.Tests.{eq-eqb, ne_eqb}
use lib.Dec.{eqb}
use lib.ListN.{length, set, take, replicate}
use lib.Seq.{length-take-le}
use Rattle.kind.specs.Limits.{most_order, most_terms, request_orders}
use Rattle.kind.specs.Kinds.{kind_of, number_of, orders_of}
use Rattle.kind.specs.declared.Kind.{Kind}
use Rattle.kind.specs.declared.Kind.TheVariants.{Coulomb}
use Rattle.laws.proofs.Cases.{clash}
use Rattle.laws.proofs.Totals.{total-last}
use Rattle.kind.proofs.Within.{orders-within}
use Rattle.roll.specs.Field.{Field}
use Rattle.roll.specs.Field as field
use Rattle.roll.specs.declared.header.ReadOrders.{ReadOrders}
use Rattle.roll.specs.declared.header.Opened.{Opened}
use Rattle.laws.specs.Total.{total}
use Rattle.roll.specs.Reading.{Reading, got, refused, onward, and_then, before, within_at, sum_after, orders_at, counted_at, of_kind, header_at}
use Rattle.roll.specs.Header.{refused_opened, held_header, open_kind_of, open_of}
use Rattle.roll.specs.inner.Held.{held_orders, counted_from}
use Rattle.roll.proofs.FieldLaws.{taken-below}
use Rattle.roll.proofs.Filling.{Filled, filled_none, filled_more, taken_more, before-none, before_more, before-is, onward-is}
use Rattle.std.specs.Prelude.{Option, Some, None, Result, Ok, Err}
use Rattle.kind.specs.declared.refusals.Fault.{Fault}
use Rattle.kind.proofs.Faults.{err-is}
use Rattle.roll.specs.Field.{fault}
use Rattle.kind.specs.declared.refusals.Refusal.TheVariants.{BadRoll}

-- ---- the orders

pub sum-new : (i sum o : ℕ) → i % 3 ≡ 2 → 0 ≡ sum_after i sum o
sum-new i sum o e = simp (eq-eqb (i % 3) 2 e)

pub sum_more : (i sum o : ℕ) → (i % 3 ≡ 2 → ⊥) → sum + o ≡ sum_after i sum o
sum_more i sum o ne = simp (ne_eqb (i % 3) 2 ne)

pub sum-small : (i sum o : ℕ) → sum ≤ most_order → o ≤ most_order - sum → sum_after i sum o ≤ most_order
sum-small i sum o small below = by (eqb (i % 3) 2)
  where
    by : (b : Bool) → cond b 0 (sum + o) ≤ most_order
    by true = omega arith
    by false = omega arith

pub record Ordering (s : List ℕ) (at n : ℕ) (values : List ℕ) (place sum l i : ℕ) : Type 0 where
  pub inside : i ≤ n
  pub places : n ≤ request_orders
  pub small : sum ≤ most_order
  pub filled : Filled request_orders values i
  pub sums : l ≡ total (take i values)
  pub few : l ≤ most_order * i
  pub whole : before (take i values) (orders_at s place (n - i) i sum) ≡ orders_at s at n 0 0

pub ordering-none : (s : List ℕ) (at n : ℕ) → n ≤ request_orders → Ordering s at n (replicate request_orders 0) at 0 0 0
unfolding total
ordering-none s at n places =
    let all : n - 0 ≡ n = omega arith in
    record { inside = zero-le; places = places; small = omega arith; filled = filled_none request_orders; sums = refl; few = zero-le; whole = rw all (before-none (orders_at s at n 0 0)) }

turn : (s : List ℕ) (place n sum i : ℕ) (x : Field) → i < n → x ≡ within_at s place 0 (most_order - sum) → orders_at s place (n - i) i sum ≡ onward x (λ o next. before (o ∷ []) (orders_at s next (n - (i + 1)) (i + 1) (sum_after i sum o)))
unfolding orders_at
turn s place n sum i x less is = let fewer : n - i ≡ suc (n - (i + 1)) = omega arith in rw (fewer, is)

pub ordering-sum : (s : List ℕ) (at n : ℕ) (values : List ℕ) (place sum l i : ℕ) (x : Field) (o next : ℕ) → Ordering s at n values place sum l i → i < n → x ≡ within_at s place 0 (most_order - sum) → x ≡ field.Is o next → sum + o ≤ most_order
ordering-sum s at n values place sum l i x o next f less is e = omega (arith, f.small, taken-below s place 0 (most_order - sum) x o next is e)

pub ordering-more : (s : List ℕ) (at n : ℕ) (values : List ℕ) (place sum l i : ℕ) (x : Field) (o next r : ℕ) → Ordering s at n values place sum l i → i < n → x ≡ within_at s place 0 (most_order - sum) → x ≡ field.Is o next → r ≡ sum_after i sum o → Ordering s at n (set values i o) next r (l + o) (i + 1)
ordering-more s at n values place sum l i x o next r f less is e again =
    let inside : i < request_orders = omega (arith, f.places) in
    let taken = taken_more request_orders values i o f.filled inside in
    let rest : orders_at s place (n - i) i sum ≡ before (o ∷ []) (orders_at s next (n - (i + 1)) (i + 1) (sum_after i sum o)) = rw e at (turn s place n sum i x less is) in
    record {
      inside = omega arith;
      places = f.places;
      small = rw again (sum-small i sum o f.small (taken-below s place 0 (most_order - sum) x o next is e));
      filled = filled_more request_orders values i o f.filled inside;
      sums = rw taken (omega (arith, f.sums, total-last (take i values) o));
      few = omega (arith, f.few, f.small, taken-below s place 0 (most_order - sum) x o next is e);
      whole =
          rw (taken, again)
          (sym (before_more (take i values) o (orders_at s next (n - (i + 1)) (i + 1) (sum_after i sum o)))
          ∙ ap (before (take i values)) (sym rest)
          ∙ f.whole);
    }

pub ordering-fits : (s : List ℕ) (at n : ℕ) (values : List ℕ) (place sum l i : ℕ) (x : Field) (o next : ℕ) → Ordering s at n values place sum l i → i < n → x ≡ within_at s place 0 (most_order - sum) → x ≡ field.Is o next → l + o ≤ most_order * request_orders
ordering-fits s at n values place sum l i x o next f less is e = omega (arith, f.few, f.small, f.places, taken-below s place 0 (most_order - sum) x o next is e)

pub ordering-refused : (s : List ℕ) (at n : ℕ) (values : List ℕ) (place sum l i : ℕ) (x : Field) (why : Fault) → Ordering s at n values place sum l i → i < n → x ≡ within_at s place 0 (most_order - sum) → x ≡ Err why → Err why ≡ held_orders (orders_at s at n 0 0)
ordering-refused s at n values place sum l i x why f less is e =
    let rest : orders_at s place (n - i) i sum ≡ refused why.refusal why.place = rw e at (turn s place n sum i x less is) in
    ap held_orders (ap (before (take i values)) (sym rest) ∙ f.whole)

no_more : (s : List ℕ) (place n i sum : ℕ) → n ≡ 0 → orders_at s place n i sum ≡ got [] place
unfolding orders_at
no_more s place n i sum none = rw none

pub ordering-done : (s : List ℕ) (at n : ℕ) (values : List ℕ) (place sum l i : ℕ) → Ordering s at n values place sum l i → n ≤ i → Ok (record { values = values; l = l; end = place }) ≡ held_orders (orders_at s at n 0 0)
ordering-done s at n values place sum l i f done =
    let none = no_more s place (n - i) i sum (omega arith) in
    let whole : got (take i values ++ []) place ≡ orders_at s at n 0 0 = ap (before (take i values)) (sym none) ∙ f.whole in
    let got-all : got (take i values) place ≡ orders_at s at n 0 0 = ap (λ (l : List ℕ). got l place) (sym (append-nil (take i values))) ∙ whole in
    let long : length (take i values) ≡ i = length-take-le i values (omega (arith, f.filled.long, f.places, f.inside)) in
    let zeros = f.filled.zeros in
    let sums = f.sums in
    let held : Ok (record { values = values; l = l; end = place }) ≡ held_orders (got (take i values) place) = cc (long, zeros, sums) in
    held ∙ ap held_orders got-all

-- ---- the kind and the term count

-- a header of the orders that were read is the header that the definition reads
orders-are : (s : List ℕ) (k : Kind) (x : Reading (List ℕ)) (read : ReadOrders) → held_orders x ≡ Ok read → held_header (and_then x (λ orders next. counted_at s next k orders)) ≡ counted_from k read (within_at s read.end 1 most_terms)
unfolding counted_at
orders-are s k (got os next) read e =
    let same : record { values = os ++ replicate (request_orders - length os) 0; l = total os; end = next } ≡ read = cc in
    by (within_at s next 1 most_terms) ∙ ap (λ (r : ReadOrders). counted_from k r (within_at s r.end 1 most_terms)) same
  where
    by : (f : Field) → held_header (onward f (λ count next. got (record { kind = k; orders = os; terms = count }) next)) ≡ counted_from k (record { values = os ++ replicate (request_orders - length os) 0; l = total os; end = next }) f
    by (field.Is n end) = refl
    by (Err why) = refl
orders-are s k (refused r place) read e = absurd (clash (cc))

orders-not : (s : List ℕ) (k : Kind) (x : Reading (List ℕ)) (why : Fault) → held_orders x ≡ Err why → Err why ≡ held_header (and_then x (λ orders next. counted_at s next k orders))
orders-not s k (got os next) why e = absurd (clash (cc))
orders-not s k (refused r place) why e = let same = err-is (fault r place) why e in rw same

pub kind-opened : (k : Kind) (s : List ℕ) (at n number : ℕ) (y : Result ReadOrders Fault) (read : ReadOrders) (x : Field) (terms place : ℕ) → n ≡ orders_of k → y ≡ held_orders (orders_at s at n 0 0) → y ≡ Ok read → x ≡ within_at s read.end 1 most_terms → x ≡ field.Is terms place → number ≡ number_of k → Ok (record { cursor = record { place = place; left = terms; kind = number; l = read.l }; orders = read.values }) ≡ open_kind_of s at k
unfolding open_kind_of
kind-opened k s at n number y read x terms place many is ok count e kind =
    let counted : counted_from k read (within_at s read.end 1 most_terms) ≡ counted_from k read (field.Is terms place) = ap (counted_from k read) (sym count ∙ e) in
    rw kind (sym counted) ∙ sym (orders-are s k (orders_at s at (orders_of k) 0 0) read (rw many at (sym is ∙ ok)))

pub kind-uncounted : (k : Kind) (s : List ℕ) (at n : ℕ) (y : Result ReadOrders Fault) (read : ReadOrders) (x : Field) (why : Fault) → n ≡ orders_of k → y ≡ held_orders (orders_at s at n 0 0) → y ≡ Ok read → x ≡ within_at s read.end 1 most_terms → x ≡ Err why → Err why ≡ open_kind_of s at k
unfolding open_kind_of
kind-uncounted k s at n y read x why many is ok count e =
    let counted : counted_from k read (within_at s read.end 1 most_terms) ≡ Err why = ap (counted_from k read) (sym count ∙ e) in
    sym counted ∙ sym (orders-are s k (orders_at s at (orders_of k) 0 0) read (rw many at (sym is ∙ ok)))

pub kind-unordered : (k : Kind) (s : List ℕ) (at n : ℕ) (y : Result ReadOrders Fault) (why : Fault) → n ≡ orders_of k → y ≡ held_orders (orders_at s at n 0 0) → y ≡ Err why → Err why ≡ open_kind_of s at k
unfolding open_kind_of
kind-unordered k s at n y why many is err = orders-not s k (orders_at s at (orders_of k) 0 0) why (rw many at (sym is ∙ err))

pub open-kind : (s : List ℕ) (most : ℕ) (x : Field) (n next : ℕ) (m : Option Kind) (k : Kind) (y : Result Opened Fault) → most ≡ number_of Coulomb → x ≡ within_at s 0 0 most → x ≡ field.Is n next → m ≡ kind_of n → m ≡ Some k → y ≡ open_kind_of s next k → y ≡ open_of s
unfolding open_of open_kind_of header_at
open-kind s most x n next m k y limit is e kind e' answer =
    answer
    ∙ sym (ap (λ (m : Option Kind). held_header (of_kind s next m)) (sym kind ∙ e'))
    ∙ sym (ap (λ (f : Field). held_header (onward f (λ n next. of_kind s next (kind_of n)))) (ap (within_at s 0 0) (sym limit) ∙ sym is ∙ e))

pub open_unknown : (s : List ℕ) (most : ℕ) (x : Field) (n next : ℕ) (m : Option Kind) → most ≡ number_of Coulomb → x ≡ within_at s 0 0 most → x ≡ field.Is n next → m ≡ kind_of n → m ≡ None → refused_opened BadRoll 0 ≡ open_of s
unfolding open_of header_at
open_unknown s most x n next m limit is e kind e' = rw (← limit, ← is, e, ← kind, e')

pub open-unread : (s : List ℕ) (most : ℕ) (x : Field) (why : Fault) → most ≡ number_of Coulomb → x ≡ within_at s 0 0 most → x ≡ Err why → Err why ≡ open_of s
unfolding open_of header_at
open-unread s most x why limit is e = rw (← limit, ← is, e)

pub orders-places : (k : Kind) (n : ℕ) → n ≡ orders_of k → n ≤ request_orders
orders-places k n e = omega (arith, orders-within k)

orders-total : (n i sum : ℕ) (s : List ℕ) (at : ℕ) (os : List ℕ) (next : ℕ) → sum ≤ most_order → orders_at s at n i sum ≡ got os next → total os ≤ most_order * n
unfolding orders_at total
orders-total zero i sum s at os next small e = let none : os ≡ [] = cc in rw none (omega arith)
orders-total (suc n) i sum s at os next small e =
    let o = onward-is (within_at s at 0 (most_order - sum)) (λ o m. before (o ∷ []) (orders_at s m n (i + 1) (sum_after i sum o))) os next e in
    let b = before-is o.0 (orders_at s o.1 n (i + 1) (sum_after i sum o.0)) os next o.3 in
    let below = taken-below s at 0 (most_order - sum) (within_at s at 0 (most_order - sum)) o.0 o.1 refl o.2 in
    rw b.2 (omega (arith, orders-total n (i + 1) (sum_after i sum o.0) s o.1 b.0 next (sum-small i sum o.0 small below) b.1))

pub orders-few : (n : ℕ) (s : List ℕ) (at : ℕ) (y : Result ReadOrders Fault) (read : ReadOrders) → n ≤ request_orders → y ≡ held_orders (orders_at s at n 0 0) → y ≡ Ok read → read.l ≤ most_order * request_orders
orders-few n s at y read few is ok = by (orders_at s at n 0 0) (λ os m h. orders-total n 0 0 s at os m (omega arith) h) (sym is ∙ ok)
  where
    by : (x : Reading (List ℕ)) → ((os : List ℕ) (next : ℕ) → x ≡ got os next → total os ≤ most_order * n) → held_orders x ≡ Ok read → read.l ≤ most_order * request_orders
    by (got os next) most e =
        let same : record { values = os ++ replicate (request_orders - length os) 0; l = total os; end = next } ≡ read = cc in
        let sum : total os ≡ read.l = ap (λ (r : ReadOrders). r.l) same in
        omega (arith, most os next refl)
    by (refused r place) most e = absurd (clash (cc))

-- as many orders as were asked for
pub orders-length : (n i sum : ℕ) (s : List ℕ) (at : ℕ) (os : List ℕ) (next : ℕ) → orders_at s at n i sum ≡ got os next → length os ≡ n
unfolding orders_at
orders-length zero i sum s at os next e = let none : os ≡ [] = cc in rw none
orders-length (suc n) i sum s at os next e =
    let o = onward-is (within_at s at 0 (most_order - sum)) (λ o m. before (o ∷ []) (orders_at s m n (i + 1) (sum_after i sum o))) os next e in
    let b = before-is o.0 (orders_at s o.1 n (i + 1) (sum_after i sum o.0)) os next o.3 in
    rw b.2 (ap suc (orders-length n (i + 1) (sum_after i sum o.0) s o.1 b.0 next b.1))
