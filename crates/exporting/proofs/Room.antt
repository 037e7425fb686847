-- The longest text: each number of a line at its limit. So a buffer of that many bytes takes every export.
use Prim.Native.Nat.{ℕ, suc, ◌+◌, ◌*◌, ◌≤◌}
use native.Mathlib.Omega.{arith}
use mathlib.Core.List.{List, [], ◌∷◌, ◌++◌}
use mathlib.Core.Path.{◌≡◌}
use lib.ListN.{length, length-append}
use Rattle.kind.specs.Limits.{most_order, table_places}
use Rattle.kind.specs.Kinds.{number_of, orders_of, table_of, most_l}
use Rattle.kind.specs.declared.Kind.{Kind}
use Rattle.kind.specs.declared.Kind.TheVariants.{Overlap, Kinetic, Nuclear, Moment, Coulomb}
use Rattle.kind.proofs.Within.{number-within, orders-within, l-within, table-within}
use Rattle.laws.specs.Total.{total}
use Rattle.number.specs.Numbers.{Bytes}
use Rattle.term.specs.Terms.{Term}
use Rattle.text.specs.Digits.{decimal_of}
use Rattle.text.proofs.Digits.{digits-most}
use Rattle.roll.specs.Reading.{got, Roll, roll_at}
use Rattle.roll.specs.Fits.{CentresFit, Below, TermFits, TermsFit, RollFits}
use Rattle.roll.proofs.Written.{roll-read}
use Rattle.roll.proofs.Back.{most-boys}
use Rattle.roll.proofs.TermsLaws.{few-prefactors}
use Rattle.exporting.specs.Text.{comma, after_commas, line_of, head_numbers, term_numbers, term_lines, text_of}
use Rattle.exporting.specs.Export.{most_line, most_text}
use Rattle.exporting.proofs.Lines.{commas-last}

-- ---- rows

next-length : (n : ℕ) (ns : List ℕ) → length (after_commas (n ∷ ns)) ≡ suc (length (decimal_of n)) + length (after_commas ns)
unfolding after_commas
next-length n ns = length-append (comma ++ decimal_of n) (after_commas ns)

row-most : (table : ℕ) (ps : List ℕ) → table ≤ table_places → Below table ps → length (after_commas ps) ≤ 3 * length ps
unfolding after_commas
row-most table [] small below = omega arith
row-most table (p ∷ ps) small below =
    let first = below.0 in
    omega (arith, next-length p ps, digits-most 1 p (omega arith), row-most table ps small below.1)

-- three orders of a centre
three-most : (x y z : ℕ) (os : List ℕ) → x + y + z ≤ most_order → length (after_commas (x ∷ y ∷ z ∷ os)) ≤ 6 + length (after_commas os)
three-most x y z os fit =
    omega (
      arith,
      next-length x (y ∷ z ∷ os),
      next-length y (z ∷ os),
      next-length z os,
      digits-most 0 x (omega arith),
      digits-most 0 y (omega arith),
      digits-most 0 z (omega arith),
    )

orders-most : (os : List ℕ) → CentresFit os → (length (after_commas os) ≤ 2 * length os) × (3 * total os ≤ most_order * length os)
unfolding after_commas total
orders-most [] fit = (omega arith, omega arith)
orders-most (x ∷ []) fit = absurd fit
orders-most (x ∷ y ∷ []) fit = absurd fit
orders-most (x ∷ y ∷ z ∷ os) fit =
    let rest = orders-most os fit.1 in
    let first = fit.0 in
    (omega (arith, three-most x y z os first, rest.0), omega (arith, rest.1))

l-most : (k : Kind) (l n : ℕ) → n ≡ orders_of k → 3 * l ≤ most_order * n → l ≤ most_l k
l-most Overlap l n is few = omega arith
l-most Kinetic l n is few = omega arith
l-most Nuclear l n is few = omega arith
l-most Moment l n is few = omega arith
l-most Coulomb l n is few = omega arith

-- ---- lines

line-length : (n : ℕ) (ns : List ℕ) → length (line_of (n ∷ ns)) ≡ length (decimal_of n) + length (after_commas ns) + 1
unfolding line_of
line-length n ns = simp length-append (omega arith)

term-most : (k : Kind) (l : ℕ) (t : Term) → l ≤ most_l k → TermFits k l t → length (line_of (term_numbers t)) ≤ most_line
term-most k l t small fit =
    let scale = digits-most 9 t.scale (let most = fit.scale in omega arith) in
    let boys = digits-most 1 t.boys (let most = fit.boys in omega (arith, most-boys k l, l-within k)) in
    let row = row-most (table_of k) t.prefactors (table-within k) fit.prefactors in
    omega (arith, line-length t.scale (t.boys ∷ t.prefactors), next-length t.boys t.prefactors, fit.count, few-prefactors k l small)

lines-most : (k : Kind) (l : ℕ) (ts : List Term) → l ≤ most_l k → TermsFit k l ts → length (term_lines ts) ≤ length ts * most_line
unfolding term_lines
lines-most k l [] small fit = omega arith
lines-most k l (t ∷ ts) small fit =
    omega (
      arith,
      length-append (line_of (term_numbers t)) (term_lines ts),
      term-most k l t small fit.0,
      lines-most k l ts small fit.1,
    )

last-length : (ns : List ℕ) (n : ℕ) → length (after_commas (ns ++ (n ∷ []))) ≡ length (after_commas ns) + suc (length (decimal_of n))
last-length ns n = rw (commas-last ns n) (length-append (after_commas ns) (comma ++ decimal_of n))

pub text-most : (r : Roll) → RollFits r → length (text_of r) ≤ most_text
unfolding text_of
text-most r fit =
    let n = length r.terms in
    let places = fit.places in
    let most = fit.most in
    let os = orders-most r.orders fit.sums in
    let l = l-most r.kind (total r.orders) (length r.orders) places os.1 in
    let kind = digits-most 0 (number_of r.kind) (omega (arith, number-within r.kind)) in
    let count = digits-most 6 n (omega arith) in
    omega (
      arith,
      length-append (line_of (head_numbers r.kind r.orders n)) (term_lines r.terms),
      line-length (number_of r.kind) (r.orders ++ (n ∷ [])),
      last-length r.orders n,
      os.0,
      orders-within r.kind,
      lines-most r.kind (total r.orders) r.terms l fit.terms,
    )

-- the text of a roll that reads
pub export-most : (s : List ℕ) (r : Roll) (end : ℕ) → Bytes s → roll_at s ≡ got r end → length (text_of r) ≤ most_text
export-most s r end bytes reads = text-most r (roll-read s r end bytes reads).1

-- its number, for the buffers of a program
pub most-is : most_text ≡ 90177484
most-is = omega arith
