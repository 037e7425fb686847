-- A listing has at most five bytes for each byte of its roll: a number's decimal has two bytes less than that, which leaves room for
-- what stands around it; and a roll that the listing takes has no term whose own number has more than five digits.
-- So a buffer of five times the longest such roll takes every listing.
use Prim.Native.Nat.{ℕ, suc, ◌+◌, ◌*◌, ◌/◌, ◌^◌, ◌≤◌, ◌<◌}
use native.Mathlib.Omega.{arith}
use mathlib.Core.Path.{◌≡◌, ap}
use mathlib.Core.List.{List, [], ◌∷◌, ◌++◌}
use borrow.Author.Tests.{ltb-true, ltb-false}
use lib.Dec.{ltb}
use lib.ListN.{length, length-append}
use Rattle.kind.specs.Limits.{most_order, most_listed, request_orders}
use Rattle.kind.specs.Kinds.{number_of, orders_of, table_of}
use Rattle.kind.specs.declared.Kind.{Kind}
use Rattle.kind.specs.declared.Kind.TheVariants.{Overlap, Kinetic, Nuclear, Moment, Coulomb}
use Rattle.kind.proofs.Within.{table-within}
use Rattle.number.specs.Numbers.{bytes_of, length_of, Bytes}
use Rattle.number.proofs.Writing.{length_last, length_more, length_some}
use Rattle.term.specs.Terms.{Term}
use Rattle.text.specs.Digits.{decimal_of}
use Rattle.text.proofs.Digits.{digits-most}
use Rattle.laws.proofs.Cases.{tested}
use Rattle.roll.specs.Bytes.{numbers_bytes, term_bytes, terms_bytes, roll_bytes}
use Rattle.laws.specs.Total.{total}
use Rattle.roll.specs.Reading.{got, Roll, roll_at}
use Rattle.roll.specs.Fits.{CentresFit, Below, TermFits, TermsFit, RollFits}
use Rattle.roll.proofs.Written.{roll-read}
use Rattle.roll.proofs.Back.{most-boys}
use Rattle.listing.specs.Text.{blank, after_blanks, kind_text, head_line, term_numbers, term_line, term_lines, listing_text, carries_place, place_text, refusal_text}

-- ---- a number's decimal

one-digit : (n : ℕ) → n < 10 → length (decimal_of n) ≤ 1
one-digit n h = digits-most 0 n h

three-digits : (n : ℕ) → n < 1000 → length (decimal_of n) ≤ 3
three-digits n h = digits-most 2 n (omega arith)

five-digits : (n : ℕ) → n < 100000 → length (decimal_of n) ≤ 5
five-digits n h = digits-most 4 n (omega arith)

ten-digits : (n : ℕ) → n < 2 ^ 32 → length (decimal_of n) ≤ 10
ten-digits n h = digits-most 9 n (omega arith)

number_short : (n : ℕ) → n < 2 ^ 32 → length (decimal_of n) + 2 ≤ 5 * length_of n
number_short n small =
    tested (ltb n 128)
    (λ t. let low = ltb-true n 128 t in omega (arith, length_last n low, three-digits n (omega arith)))
    (λ f.
    let two = length_more n (ltb-false n 128 f) small in
    tested (ltb n 16384)
    (λ t. let low = ltb-true n 16384 t in omega (arith, length_some (n / 128), five-digits n (omega arith)))
    (λ g.
    let high = ltb-false n 16384 g in
    let three = length_more (n / 128) (omega arith) (omega arith) in
    omega (arith, length_some (n / 128 / 128), ten-digits n small)))

-- ---- rows

next-length : (n : ℕ) (ns : List ℕ) → length (after_blanks (n ∷ ns)) ≡ suc (length (decimal_of n)) + length (after_blanks ns)
unfolding after_blanks
next-length n ns = length-append (blank ++ decimal_of n) (after_blanks ns)

next-bytes : (n : ℕ) (ns : List ℕ) → length (numbers_bytes (n ∷ ns)) ≡ length_of n + length (numbers_bytes ns)
unfolding numbers_bytes length_of
next-bytes n ns = length-append (bytes_of n) (numbers_bytes ns)

row-short : (table : ℕ) (ps : List ℕ) → table < 2 ^ 32 → Below table ps → length (after_blanks ps) ≤ 5 * length (numbers_bytes ps)
unfolding after_blanks numbers_bytes
row-short table [] small below = omega arith
row-short table (p ∷ ps) small below =
    let first = below.0 in
    omega (arith, next-length p ps, next-bytes p ps, number_short p (omega arith), row-short table ps small below.1)

-- three orders of a centre
three-short : (x y z : ℕ) (os : List ℕ) → x + y + z ≤ most_order → length (after_blanks (x ∷ y ∷ z ∷ os)) ≤ 6 + length (after_blanks os)
three-short x y z os fit = omega (arith, next-length x (y ∷ z ∷ os), next-length y (z ∷ os), next-length z os, one-digit x (omega arith), one-digit y (omega arith), one-digit z (omega arith))

orders-short : (os : List ℕ) → CentresFit os → (length (after_blanks os) ≤ 2 * length os) × (total os ≤ most_order * length os)
unfolding after_blanks total
orders-short [] fit = (omega arith, omega arith)
orders-short (x ∷ []) fit = absurd fit
orders-short (x ∷ y ∷ []) fit = absurd fit
orders-short (x ∷ y ∷ z ∷ os) fit =
    let rest = orders-short os fit.1 in
    let first = fit.0 in
    (omega (arith, three-short x y z os first, rest.0), omega (arith, rest.1))

orders_bytes : (os : List ℕ) → length os ≤ length (numbers_bytes os)
orders_bytes [] = omega arith
orders_bytes (o ∷ os) = omega (arith, next-bytes o os, length_some o, orders_bytes os)

-- ---- lines

line-length : (number : ℕ) (t : Term) → length (term_line number t) ≡ length (decimal_of number) + length (decimal_of t.scale) + length (decimal_of t.boys) + length (after_blanks t.prefactors) + 4
unfolding term_line term_numbers
line-length number t = simp length-append (omega arith)

line-bytes : (t : Term) → length (term_bytes t) ≡ length_of t.scale + length_of t.boys + length_of (length t.prefactors) + length (numbers_bytes t.prefactors)
unfolding term_bytes length_of
line-bytes t = simp length-append (omega arith)

line-short : (k : Kind) (l number : ℕ) (t : Term) → l < 2 ^ 32 → number < 100000 → TermFits k l t → length (term_line number t) ≤ 5 * length (term_bytes t)
line-short k l number t small few fit =
    let scale = number_short t.scale (let most = fit.scale in omega arith) in
    let boys = number_short t.boys (let most = fit.boys in omega (arith, most-boys k l)) in
    let row = row-short (table_of k) t.prefactors (omega (arith, table-within k)) fit.prefactors in
    omega (arith, line-length number t, line-bytes t, five-digits number few, length_some (length t.prefactors))

lines-short : (k : Kind) (l number : ℕ) (ts : List Term) → l < 2 ^ 32 → number + length ts ≤ 100000 → TermsFit k l ts → length (term_lines number ts) ≤ 5 * length (terms_bytes ts)
unfolding term_lines terms_bytes
lines-short k l number [] small few fit = omega arith
lines-short k l number (t ∷ ts) small few fit =
    omega (
      arith,
      length-append (term_line number t) (term_lines (number + 1) ts),
      length-append (term_bytes t) (terms_bytes ts),
      line-short k l number t small (omega arith) fit.0,
      lines-short k l (number + 1) ts small (omega arith) fit.1,
    )

small-kind : (k : Kind) → (number_of k < 10) × (6 ≤ orders_of k) × (orders_of k ≤ request_orders)
small-kind Overlap = (omega arith, omega arith, omega arith)
small-kind Kinetic = (omega arith, omega arith, omega arith)
small-kind Nuclear = (omega arith, omega arith, omega arith)
small-kind Moment = (omega arith, omega arith, omega arith)
small-kind Coulomb = (omega arith, omega arith, omega arith)

head-length : (k : Kind) (os : List ℕ) (terms : ℕ) → length (head_line k os terms) ≡ 20 + length (decimal_of (number_of k)) + length (after_blanks os) + length (decimal_of terms)
unfolding head_line kind_text
head-length k os terms = simp length-append (omega arith)

roll-length : (k : Kind) (os : List ℕ) (ts : List Term) → length (roll_bytes k os ts) ≡ length_of (number_of k) + length (numbers_bytes os) + length_of (length ts) + length (terms_bytes ts)
unfolding roll_bytes length_of
roll-length k os ts = simp length-append (omega arith)

-- each term has a byte at least
terms-some : (ts : List Term) → length ts ≤ length (terms_bytes ts)
unfolding terms_bytes
terms-some [] = omega arith
terms-some (t ∷ ts) = omega (arith, length-append (term_bytes t) (terms_bytes ts), line-bytes t, length_some t.scale, terms-some ts)

fits-short : (r : Roll) → RollFits r → length (roll_bytes r.kind r.orders r.terms) ≤ most_listed → length (listing_text r) ≤ 5 * length (roll_bytes r.kind r.orders r.terms)
unfolding listing_text
fits-short r fit listed =
    let k = small-kind r.kind in
    let os = orders-short r.orders fit.sums in
    let places = fit.places in
    let few : 1 + length r.terms ≤ 100000 = omega (arith, roll-length r.kind r.orders r.terms, terms-some r.terms) in
    let l : total r.orders < 2 ^ 32 = omega (arith, os.1, k.2) in
    omega (
      arith,
      length-append (head_line r.kind r.orders (length r.terms)) (term_lines 1 r.terms),
      head-length r.kind r.orders (length r.terms),
      roll-length r.kind r.orders r.terms,
      one-digit (number_of r.kind) k.0,
      length_some (number_of r.kind),
      k.1,
      os.0,
      orders_bytes r.orders,
      number_short (length r.terms) (omega arith),
      lines-short r.kind (total r.orders) 1 r.terms l (omega arith) fit.terms,
    )

-- the listing of a roll that reads
pub listing-short : (s : List ℕ) (r : Roll) (end : ℕ) → Bytes s → length s ≤ most_listed → roll_at s ≡ got r end → length (listing_text r) ≤ 5 * length s
listing-short s r end bytes small reads =
    let w = roll-read s r end bytes reads in
    let long : length s ≡ length (roll_bytes r.kind r.orders r.terms) = ap length w.0 in
    omega (arith, fits-short r w.1 (omega arith))

-- ---- a refusal's line

twenty-digits : (n : ℕ) → n < 2 ^ 64 → length (decimal_of n) ≤ 20
twenty-digits n h = digits-most 19 n (omega arith)

place_short : (refusal place : ℕ) → place < 2 ^ 64 → length (place_text refusal place) ≤ 24
place_short refusal place small =
    tested (carries_place refusal)
    (λ t. rw t (omega (arith, twenty-digits place small)))
    (λ f. rw f (omega arith))

pub refusal-short : (refusal place : ℕ) → refusal < 256 → place < 2 ^ 64 → length (refusal_text refusal place) ≤ 64
unfolding refusal_text
refusal-short refusal place few small = simp length-append (omega (arith, three-digits refusal (omega arith), place_short refusal place small))
