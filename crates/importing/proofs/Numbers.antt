-- The numbers of a line, one after the other: what is left says what the whole says.
use Prim.Native.Nat.{ℕ, zero, suc, ◌+◌, ◌*◌, ◌-◌, ◌^◌, ◌≤◌, ◌<◌}
use mathlib.Core.Path.{◌≡◌, refl, sym, ap, ◌∙◌}
use mathlib.Core.Bool.{true, false}
use mathlib.Core.List.{List}
use native.Mathlib.Omega.{arith}
use borrow.Author.Tests.{lt-ltb, le-ltb, eq-eqb, ne_eqb}
use lib.Dec.{eqb}
use Rattle.laws.proofs.Cases.{clash}
use Rattle.laws.proofs.Counting.{left_one, left-none}
use Rattle.laws.proofs.Pairs.{some-both}
use Rattle.kind.specs.Limits.{most_order, most_terms, most_scale, request_orders}
use Rattle.kind.specs.Kinds.{kind_of, number_of, orders_of, table_of, most_prefactors, uses_boys}
use Rattle.kind.specs.declared.Kind.{Kind}
use Rattle.kind.specs.declared.Kind.TheVariants.{Overlap, Kinetic, Nuclear, Moment, Coulomb}
use Rattle.kind.proofs.Within.{some-entries, table-within}
use Rattle.number.specs.Numbers.{length_of}
use Rattle.number.proofs.Writing.{length-few}
use Rattle.roll.specs.Reading.{most_boys, sum_after}
use Rattle.roll.proofs.HeaderLaws.{sum-small}
use Rattle.importing.specs.inner.Numeral.{Numeral}
use Rattle.importing.specs.inner.Numeral as numeral
use Rattle.importing.specs.inner.FirstLine.{FirstLine}
use Rattle.importing.specs.inner.FirstLine as head
use Rattle.importing.specs.inner.Places.{within_at, onward, orders_at, each_at, boys_at, term_at, counted_head, ordered_head, head_orders_at, named_head, numbered_head, head_at}
use Rattle.importing.proofs.Within.{within-below}
use Rattle.std.specs.Prelude.{Option, Some, None}

-- ---- numbers that are gone over

pub each_more : (s : List ℕ) (place n i high size v next : ℕ) (r whole : Numeral) → each_at s place (n - i) high size ≡ whole → i < n
    → r ≡ within_at s place 0 high → r ≡ numeral.Is v next → each_at s next (n - (i + 1)) high size ≡ whole
unfolding each_at
each_more s place n i high size v next r whole e inside is made =
    let one = left_one n i inside in
    sym (ap (λ (x : Numeral). onward x (λ p next. each_at s next (n - (i + 1)) high size)) (sym is ∙ made)) ∙ sym (ap (λ (k : ℕ). each_at s place k high size) one) ∙ e

pub each-wrong : (s : List ℕ) (place n i high size : ℕ) (r whole : Numeral) → each_at s place (n - i) high size ≡ whole → i < n
    → r ≡ within_at s place 0 high → r ≡ numeral.Wrong → numeral.Wrong ≡ whole
unfolding each_at
each-wrong s place n i high size r whole e inside is made =
    let one = left_one n i inside in
    sym (ap (λ (x : Numeral). onward x (λ p next. each_at s next (n - (i + 1)) high size)) (sym is ∙ made)) ∙ sym (ap (λ (k : ℕ). each_at s place k high size) one) ∙ e

pub each-done : (s : List ℕ) (place n i high size : ℕ) (whole : Numeral) → each_at s place (n - i) high size ≡ whole → n ≤ i → numeral.Is size place ≡ whole
unfolding each_at
each-done s place n i high size whole e past = sym (ap (λ (k : ℕ). each_at s place k high size) (left-none n i past)) ∙ e

-- ---- orders

pub record Ordering (s : List ℕ) (at n place sum l i : ℕ) : Type 0 where
  pub upto : i ≤ n
  pub small : sum ≤ most_order
  pub few : l ≤ most_order * i
  pub whole : orders_at s place (n - i) i sum l ≡ orders_at s at n 0 0 0

pub ordering-first : (s : List ℕ) (at n : ℕ) → Ordering s at n at 0 0 0
ordering-first s at n = record { upto = omega arith; small = omega arith; few = omega arith; whole = ap (λ (k : ℕ). orders_at s at k 0 0 0) (omega arith) }

ordering-at : (s : List ℕ) (at n place sum l i : ℕ) → Ordering s at n place sum l i → i < n
    → onward (within_at s place 0 (most_order - sum)) (λ o next. orders_at s next (n - (i + 1)) (i + 1) (sum_after i sum o) (l + o)) ≡ orders_at s at n 0 0 0
unfolding orders_at
ordering-at s at n place sum l i o inside = sym (ap (λ (k : ℕ). orders_at s place k i sum l) (left_one n i inside)) ∙ o.whole

pub ordering-more : (s : List ℕ) (at n place sum l i order next after : ℕ) (r : Numeral) → Ordering s at n place sum l i → i < n
    → r ≡ within_at s place 0 (most_order - sum) → r ≡ numeral.Is order next → after ≡ sum_after i sum order → Ordering s at n next after (l + order) (i + 1)
ordering-more s at n place sum l i order next after r o inside is made again =
    let below : order ≤ most_order - sum = within-below s place 0 (most_order - sum) order next (sym is ∙ made) in
    let few = o.few in
    record {
      upto = omega arith;
      small = rw again (sum-small i sum order o.small below);
      few = omega arith;
      whole = rw again (sym (ap (λ (x : Numeral). onward x (λ o next. orders_at s next (n - (i + 1)) (i + 1) (sum_after i sum o) (l + o))) (sym is ∙ made)) ∙ ordering-at s at n place sum l i o inside);
    }

pub ordering-sum : (s : List ℕ) (at n place sum l i order next : ℕ) (r : Numeral) → Ordering s at n place sum l i
    → r ≡ within_at s place 0 (most_order - sum) → r ≡ numeral.Is order next → sum + order ≤ most_order
ordering-sum s at n place sum l i order next r o is made = let below = within-below s place 0 (most_order - sum) order next (sym is ∙ made) in omega (arith, o.small)

pub ordering-fits : (s : List ℕ) (at n place sum l i order next : ℕ) (r : Numeral) → n ≤ request_orders → Ordering s at n place sum l i
    → r ≡ within_at s place 0 (most_order - sum) → r ≡ numeral.Is order next → l + order < 4294967296
ordering-fits s at n place sum l i order next r most o is made = let below = within-below s place 0 (most_order - sum) order next (sym is ∙ made) in omega (arith, o.few, o.upto)

pub ordering-wrong : (s : List ℕ) (at n place sum l i : ℕ) (r : Numeral) → Ordering s at n place sum l i → i < n
    → r ≡ within_at s place 0 (most_order - sum) → r ≡ numeral.Wrong → numeral.Wrong ≡ orders_at s at n 0 0 0
ordering-wrong s at n place sum l i r o inside is made =
    sym (ap (λ (x : Numeral). onward x (λ o next. orders_at s next (n - (i + 1)) (i + 1) (sum_after i sum o) (l + o))) (sym is ∙ made)) ∙ ordering-at s at n place sum l i o inside

pub ordering-done : (s : List ℕ) (at n place sum l i : ℕ) → Ordering s at n place sum l i → n ≤ i → numeral.Is l place ≡ orders_at s at n 0 0 0
unfolding orders_at
ordering-done s at n place sum l i o past = sym (ap (λ (k : ℕ). orders_at s place k i sum l) (left-none n i past)) ∙ o.whole

onward-is : (x : Numeral) (rest : ℕ → ℕ → Numeral) (n next : ℕ) → onward x rest ≡ numeral.Is n next → (v m : ℕ) × (x ≡ numeral.Is v m) × (rest v m ≡ numeral.Is n next)
onward-is (numeral.Is v m) rest n next e = (v, m, refl, e)
onward-is numeral.Wrong rest n next e = absurd (clash (cc))

pub orders-few : (n : ℕ) (s : List ℕ) (at i sum l : ℕ) (m next : ℕ) → orders_at s at n i sum l ≡ numeral.Is m next → m ≤ l + most_order * n
unfolding orders_at
orders-few zero s at i sum l m next e = let same : l ≡ m = (some-both e).0 in omega arith
orders-few (suc n) s at i sum l m next e =
    let o = onward-is (within_at s at 0 (most_order - sum)) (λ o next. orders_at s next n (i + 1) (sum_after i sum o) (l + o)) m next e in
    let below = within-below s at 0 (most_order - sum) o.0 o.1 o.2 in
    let rest = orders-few n s o.1 (i + 1) (sum_after i sum o.0) (l + o.0) m next o.3 in
    omega arith

-- ---- the first line

orders-places : (k : Kind) → orders_of k ≤ request_orders
orders-places Overlap = omega arith
orders-places Kinetic = omega arith
orders-places Nuclear = omega arith
orders-places Moment = omega arith
orders-places Coulomb = omega arith

pub orders-room : (k : Kind) (n : ℕ) → n ≡ orders_of k → n ≤ request_orders
orders-room k n e = omega (arith, e, orders-places k)

pub orders-more : (k : Kind) (n : ℕ) → n ≡ orders_of k → n + 2 < 2 ^ 64
orders-more k n e = omega (arith, e, orders-places k)

pub l-byte : (s : List ℕ) (at l next n : ℕ) (k : Kind) (r : Numeral) → n ≡ orders_of k → r ≡ orders_at s at n 0 0 0 → r ≡ numeral.Is l next → l < 256
l-byte s at l next n k r e is made = omega (arith, e, orders-places k, orders-few n s at 0 0 0 l next (sym is ∙ made))

pub head-made : (s : List ℕ) (at l next n terms end : ℕ) (k : Kind) (r q : Numeral) → n ≡ orders_of k → r ≡ orders_at s at n 0 0 0 → r ≡ numeral.Is l next
    → q ≡ within_at s next 1 most_terms → q ≡ numeral.Is terms end → head.Is k l terms ≡ head_orders_at s at k
unfolding head_orders_at
head-made s at l next n terms end k r q e is made is' made' =
    ap (counted_head k l) (sym made' ∙ is')
    ∙ ap (ordered_head s k) (sym made ∙ is ∙ ap (λ (n : ℕ). orders_at s at n 0 0 0) e)

pub head-uncounted : (s : List ℕ) (at l next n : ℕ) (k : Kind) (r q : Numeral) → n ≡ orders_of k → r ≡ orders_at s at n 0 0 0 → r ≡ numeral.Is l next
    → q ≡ within_at s next 1 most_terms → q ≡ numeral.Wrong → head.Wrong ≡ head_orders_at s at k
unfolding head_orders_at
head-uncounted s at l next n k r q e is made is' made' =
    ap (counted_head k l) (sym made' ∙ is')
    ∙ ap (ordered_head s k) (sym made ∙ is ∙ ap (λ (n : ℕ). orders_at s at n 0 0 0) e)

pub head-unordered : (s : List ℕ) (at n : ℕ) (k : Kind) (r : Numeral) → n ≡ orders_of k → r ≡ orders_at s at n 0 0 0 → r ≡ numeral.Wrong → head.Wrong ≡ head_orders_at s at k
unfolding head_orders_at
head-unordered s at n k r e is made = ap (ordered_head s k) (sym made ∙ is ∙ ap (λ (n : ℕ). orders_at s at n 0 0 0) e)

pub kind-byte : (s : List ℕ) (at number next high : ℕ) (r : Numeral) → r ≡ within_at s at 0 high → r ≡ numeral.Is number next → high ≡ number_of Coulomb → number < 256
kind-byte s at number next high r is made few = omega (arith, few, within-below s at 0 high number next (sym is ∙ made))

pub first_made : (s : List ℕ) (n number next high places : ℕ) (k : Kind) (r : Numeral) (m : Option Kind) (h : FirstLine) → high ≡ number_of Coulomb → r ≡ within_at s 0 0 high → r ≡ numeral.Is number next
    → m ≡ kind_of number → m ≡ Some k → places ≡ orders_of k → n ≡ places + 2 → h ≡ head_orders_at s next k → h ≡ head_at s n
unfolding head_at
first_made s n number next high places k r m h hi is made of kind p count e =
    let counts : eqb n (orders_of k + 2) ≡ true = eq-eqb n (orders_of k + 2) (omega arith) in
    let step : named_head s n next (Some k) ≡ head_orders_at s next k = rw counts in
    e ∙ sym step ∙ ap (named_head s n next) (sym kind ∙ of) ∙ ap (numbered_head s n) (sym made ∙ is ∙ ap (within_at s 0 0) hi)

pub first-other : (s : List ℕ) (n number next high places : ℕ) (k : Kind) (r : Numeral) (m : Option Kind) → high ≡ number_of Coulomb → r ≡ within_at s 0 0 high → r ≡ numeral.Is number next
    → m ≡ kind_of number → m ≡ Some k → places ≡ orders_of k → (n ≡ places + 2 → ⊥) → head.Wrong ≡ head_at s n
unfolding head_at
first-other s n number next high places k r m hi is made of kind p count =
    let counts : eqb n (orders_of k + 2) ≡ false = ne_eqb n (orders_of k + 2) (λ q. count (omega arith)) in
    let step : named_head s n next (Some k) ≡ head.Wrong = rw counts in
    sym step ∙ ap (named_head s n next) (sym kind ∙ of) ∙ ap (numbered_head s n) (sym made ∙ is ∙ ap (within_at s 0 0) hi)

pub first-unknown : (s : List ℕ) (n number next high : ℕ) (r : Numeral) (m : Option Kind) → high ≡ number_of Coulomb → r ≡ within_at s 0 0 high → r ≡ numeral.Is number next
    → m ≡ kind_of number → m ≡ None → head.Wrong ≡ head_at s n
unfolding head_at
first-unknown s n number next high r m hi is made of kind = ap (named_head s n next) (sym kind ∙ of) ∙ ap (numbered_head s n) (sym made ∙ is ∙ ap (within_at s 0 0) hi)

pub first-wrong : (s : List ℕ) (n high : ℕ) (r : Numeral) → high ≡ number_of Coulomb → r ≡ within_at s 0 0 high → r ≡ numeral.Wrong → head.Wrong ≡ head_at s n
unfolding head_at
first-wrong s n high r hi is made = ap (numbered_head s n) (sym made ∙ is ∙ ap (within_at s 0 0) hi)

-- ---- a term

pub table-some : (k : Kind) (table : ℕ) → table ≡ table_of k → 1 ≤ table
table-some k table e = omega (arith, e, some-entries k)

pub table_fits : (k : Kind) (table : ℕ) → table ≡ table_of k → table < 2 ^ 32
table_fits k table e = omega (arith, e, table-within k)

pub prefactors-most : (k : Kind) (l : ℕ) → most_prefactors k l ≤ l + 1
prefactors-most Overlap l = omega arith
prefactors-most Kinetic l = omega arith
prefactors-most Nuclear l = omega arith
prefactors-most Moment l = omega arith
prefactors-most Coulomb l = omega arith

pub most-fits : (k : Kind) (l most : ℕ) → most ≡ most_prefactors k l → l < 256 → most + 2 < 2 ^ 64
most-fits k l most e byte = omega (arith, e, prefactors-most k l)

pub numbers_fit : (k : Kind) (l most n : ℕ) → most ≡ most_prefactors k l → l < 256 → n ≤ most + 2 → n < 2 ^ 32
numbers_fit k l most n e byte few = omega (arith, e, prefactors-most k l)

pub bytes_fit : (scale bytes : ℕ) → bytes ≡ length_of scale → bytes < 2 ^ 32
bytes_fit scale bytes e = omega (arith, e, length-few scale)

pub size_fits : (k : Kind) (l most n scale bytes : ℕ) → most ≡ most_prefactors k l → l < 256 → n ≤ most + 2 → bytes ≡ length_of scale → bytes + n < 2 ^ 32
size_fits k l most n scale bytes e byte few b = omega (arith, e, b, prefactors-most k l, length-few scale)

pub boys-most : (k : Kind) (l : ℕ) → uses_boys k ≡ true → l ≡ most_boys k l
boys-most k l e = rw e

pub boys-none : (k : Kind) (l : ℕ) → uses_boys k ≡ false → 0 ≡ most_boys k l
boys-none k l e = rw e

pub boys-made : (s : List ℕ) (at n l size most v next table : ℕ) (k : Kind) (r q : Numeral) → most ≡ most_boys k l → r ≡ within_at s at 0 most → r ≡ numeral.Is v next
    → table ≡ table_of k → q ≡ each_at s next n (table - 1) size → q ≡ boys_at s at n k l size
unfolding boys_at
boys-made s at n l size most v next table k r q m is made t e =
    e ∙ ap (λ (x : ℕ). each_at s next n (x - 1) size) t
    ∙ ap (λ (x : Numeral). onward x (λ b next. each_at s next n (table_of k - 1) size)) (sym made ∙ is ∙ ap (within_at s at 0) m)

pub boys-wrong : (s : List ℕ) (at n l size most : ℕ) (k : Kind) (r : Numeral) → most ≡ most_boys k l → r ≡ within_at s at 0 most → r ≡ numeral.Wrong → numeral.Wrong ≡ boys_at s at n k l size
unfolding boys_at
boys-wrong s at n l size most k r m is made =
    ap (λ (x : Numeral). onward x (λ b next. each_at s next n (table_of k - 1) size)) (sym made ∙ is ∙ ap (within_at s at 0) m)

pub term-many : (s : List ℕ) (at n l most : ℕ) (k : Kind) → most ≡ most_prefactors k l → most + 2 < n → numeral.Wrong ≡ term_at s at n k l
unfolding term_at
term-many s at n l most k e many = let many' : most_prefactors k l + 2 < n = omega arith in rw (lt-ltb (most_prefactors k l + 2) n many')

term_few : (s : List ℕ) (at n l most : ℕ) (k : Kind) → most ≡ most_prefactors k l → n ≤ most + 2
    → onward (within_at s at 1 most_scale) (λ scale next. boys_at s next (n - 2) k l (length_of scale + n)) ≡ term_at s at n k l
unfolding term_at
term_few s at n l most k e few = let few' : n ≤ most_prefactors k l + 2 = omega arith in rw (le-ltb (most_prefactors k l + 2) n few')

pub term_made : (s : List ℕ) (at n l most scale next size bytes : ℕ) (k : Kind) (r q : Numeral) → most ≡ most_prefactors k l → n ≤ most + 2 → r ≡ within_at s at 1 most_scale → r ≡ numeral.Is scale next
    → bytes ≡ length_of scale → size ≡ bytes + n → q ≡ boys_at s next (n - 2) k l size → q ≡ term_at s at n k l
term_made s at n l most scale next size bytes k r q e few is made b z made' =
    made' ∙ ap (boys_at s next (n - 2) k l) (z ∙ ap (λ (x : ℕ). x + n) b)
    ∙ ap (λ (x : Numeral). onward x (λ scale next. boys_at s next (n - 2) k l (length_of scale + n))) (sym made ∙ is)
    ∙ term_few s at n l most k e few

pub term-wrong : (s : List ℕ) (at n l most : ℕ) (k : Kind) (r : Numeral) → most ≡ most_prefactors k l → n ≤ most + 2 → r ≡ within_at s at 1 most_scale → r ≡ numeral.Wrong → numeral.Wrong ≡ term_at s at n k l
term-wrong s at n l most k r e few is made =
    ap (λ (x : Numeral). onward x (λ scale next. boys_at s next (n - 2) k l (length_of scale + n))) (sym made ∙ is) ∙ term_few s at n l most k e few
