-- How long a roll can be: each of its numbers takes at most what its limit takes.
use Prim.Native.Nat.{ℕ, ◌+◌, ◌*◌, ◌≤◌, ◌<◌}
use mathlib.Core.Path.{◌≡◌, refl, ap}
use mathlib.Core.List.{List, [], ◌∷◌, ◌++◌}
use native.Mathlib.Omega.{arith}
use native.Mathlib.Nat.{mul-le-mul}
use borrow.Author.Tests.{ltb-false}
use lib.ListN.{length, take, length-append}
use Rattle.laws.specs.Total.{total}
use Rattle.kind.specs.declared.Kind.{Kind}
use Rattle.kind.specs.declared.Kind.TheVariants.{Overlap, Kinetic, Nuclear, Moment, Coulomb}
use Rattle.kind.specs.Limits.{most_order, most_terms, most_scale, request_orders}
use Rattle.kind.specs.Kinds.{number_of, orders_of, most_l, most_prefactors, table_of}
use Rattle.kind.proofs.Within.{number-within, orders-within, l-within, table-within}
use Rattle.term.specs.Terms.{Term}
use Rattle.number.specs.Numbers.{groups, bytes_of, length_of}
use Rattle.roll.specs.Bytes.{numbers_bytes, term_bytes, terms_bytes, roll_bytes}
use Rattle.roll.specs.Reading.{Roll}
use Rattle.roll.specs.Fits.{CentresFit, Below, TermFits, TermsFit, RollFits}
use Rattle.roll.proofs.Back.{most-boys}
use Rattle.form2.proofs.AtMost.{length_most, length-bytes}
use Rattle.expansion.specs.Answer as answer
use Rattle.expansion.specs.Expanding.{terms_of, roll_of, ExpandTold, most_term, most_roll_of, most_roll}
use Rattle.expansion.specs.inner.Requests.{RequestWithin}
use Rattle.expansion.proofs.ReadsBack.{roll-fits}
use Rattle.expansion.proofs.Demanded.{answered, known}

-- ---- numbers one after the other

abbrev AtMost : ℕ → List ℕ → Type 0
AtMost most [] = Unit
AtMost most (n ∷ ns) = (n ≤ most) × AtMost most ns

numbers-most : (most : ℕ) (ns : List ℕ) → AtMost most ns → length (numbers_bytes ns) ≤ length ns * length_of most
unfolding numbers_bytes
numbers-most most [] h = omega arith
numbers-most most (n ∷ ns) h =
    let a = length-append (bytes_of n) (numbers_bytes ns) in
    let b = length-bytes n in
    let c = length_most n most h.0 in
    let d = numbers-most most ns h.1 in
    omega arith

below-most : (table : ℕ) (ps : List ℕ) → Below table ps → AtMost table ps
below-most table [] h = tt
below-most table (p ∷ ps) h = let under : p < table = h.0 in (omega arith, below-most table ps h.1)

centres-most : (os : List ℕ) → CentresFit os → AtMost most_order os
centres-most [] h = tt
centres-most (x ∷ []) h = absurd h
centres-most (x ∷ y ∷ []) h = absurd h
centres-most (x ∷ y ∷ z ∷ os) h = let sum : x + y + z ≤ most_order = h.0 in (omega arith, (omega arith, (omega arith, centres-most os h.1)))

-- ---- L

centres-total : (os : List ℕ) → CentresFit os → total os * 3 ≤ length os * most_order
unfolding total
centres-total [] h = omega arith
centres-total (x ∷ []) h = absurd h
centres-total (x ∷ y ∷ []) h = absurd h
centres-total (x ∷ y ∷ z ∷ os) h = let sum : x + y + z ≤ most_order = h.0 in let rest = centres-total os h.1 in omega arith

l-most : (k : Kind) (os : List ℕ) → length os ≡ orders_of k → CentresFit os → total os ≤ most_l k
l-most Overlap os e h = let t = centres-total os h in omega arith
l-most Kinetic os e h = let t = centres-total os h in omega arith
l-most Nuclear os e h = let t = centres-total os h in omega arith
l-most Moment os e h = let t = centres-total os h in omega arith
l-most Coulomb os e h = let t = centres-total os h in omega arith

prefactors-most : (k : Kind) (l m : ℕ) → l ≤ m → most_prefactors k l ≤ most_prefactors k m
prefactors-most Overlap l m h = h
prefactors-most Kinetic l m h = omega arith
prefactors-most Nuclear l m h = h
prefactors-most Moment l m h = h
prefactors-most Coulomb l m h = h

-- ---- a term, and terms

term-most : (k : Kind) (l : ℕ) (t : Term) → l ≤ most_l k → TermFits k l t → length (term_bytes t) ≤ most_term k
unfolding term_bytes
term-most k l t small fit =
    let ps = t.prefactors in
    let parts =
    length-append (bytes_of t.scale) (bytes_of t.boys ++ (bytes_of (length ps) ++ numbers_bytes ps)) in
    let more = length-append (bytes_of t.boys) (bytes_of (length ps) ++ numbers_bytes ps) in
    let last = length-append (bytes_of (length ps)) (numbers_bytes ps) in
    let few : length ps ≤ most_prefactors k (most_l k) = omega (arith, fit.count, prefactors-most k l (most_l k) small) in
    let a = length_most t.scale most_scale fit.scale in
    let b = length_most t.boys (most_l k) (omega (arith, fit.boys, most-boys k l)) in
    let c = length_most (length ps) (most_prefactors k (most_l k)) few in
    let d = numbers-most (table_of k) ps (below-most (table_of k) ps fit.prefactors) in
    let e : length ps * length_of (table_of k) ≤ most_prefactors k (most_l k) * length_of (table_of k) = mul-le-mul few (omega arith) in
    omega (arith, length-bytes t.scale, length-bytes t.boys, length-bytes (length ps))

terms-most : (k : Kind) (l : ℕ) (ts : List Term) → l ≤ most_l k → TermsFit k l ts → length (terms_bytes ts) ≤ length ts * most_term k
unfolding terms_bytes
terms-most k l [] small fit = omega arith
terms-most k l (t ∷ ts) small fit =
    let a = length-append (term_bytes t) (terms_bytes ts) in
    let b = term-most k l t small fit.0 in
    let c = terms-most k l ts small fit.1 in
    omega arith

-- ---- a roll

pub within-most : (r : Roll) → RollFits r → length (roll_bytes r.kind r.orders r.terms) ≤ most_roll_of r.kind
unfolding roll_bytes
within-most r fit =
    let k = r.kind in
    let ts = r.terms in
    let parts = length-append (bytes_of (number_of k)) (numbers_bytes r.orders ++ (bytes_of (length ts) ++ terms_bytes ts)) in
    let more = length-append (numbers_bytes r.orders) (bytes_of (length ts) ++ terms_bytes ts) in
    let last = length-append (bytes_of (length ts)) (terms_bytes ts) in
    let orders = numbers-most most_order r.orders (centres-most r.orders fit.sums) in
    let many : length r.orders * length_of most_order ≡ orders_of k * length_of most_order = ap (λ (n : ℕ). n * length_of most_order) fit.places in
    let count = length_most (length ts) most_terms fit.most in
    let terms = terms-most k (total r.orders) ts (l-most k r.orders fit.places fit.sums) fit.terms in
    let all : length ts * most_term k ≤ most_terms * most_term k = mul-le-mul fit.most (omega arith) in
    omega (arith, length-bytes (number_of k), length-bytes (length ts))

prefactors-within : (k : Kind) → most_prefactors k (most_l k) ≤ most_prefactors Coulomb (most_l Coulomb)
prefactors-within Overlap = omega arith
prefactors-within Kinetic = omega arith
prefactors-within Nuclear = omega arith
prefactors-within Moment = omega arith
prefactors-within Coulomb = omega arith

pub kind-most : (k : Kind) → most_roll_of k ≤ most_roll
kind-most k =
    let a = length_most (number_of k) (number_of Coulomb) (number-within k) in
    let b : orders_of k * length_of most_order ≤ orders_of Coulomb * length_of most_order = mul-le-mul (orders-within k) (omega arith) in
    let c = length_most (most_l k) (most_l Coulomb) (l-within k) in
    let d = length_most (most_prefactors k (most_l k)) (most_prefactors Coulomb (most_l Coulomb)) (prefactors-within k) in
    let e : most_prefactors k (most_l k) * length_of (table_of k) ≤ most_prefactors Coulomb (most_l Coulomb) * length_of (table_of Coulomb) =
    mul-le-mul (prefactors-within k) (length_most (table_of k) (table_of Coulomb) (table-within k)) in
    let term : most_term k ≤ most_term Coulomb = omega arith in
    let terms : most_terms * most_term k ≤ most_terms * most_term Coulomb = mul-le-mul (omega arith) term in
    omega arith

-- every roll that `expand` answers with
pub roll-most : (kind : ℕ) (orders before : List ℕ) (begin long count : ℕ) (after : List ℕ)
    → length orders ≡ request_orders → ExpandTold kind orders before begin (answer.Roll long count) after → long ≤ most_roll
unfolding roll_of
roll-most kind orders before begin long count after in-full told =
    let of = known roll_of kind orders before begin (answer.Roll long count) after told (λ e. omega arith) in
    let k = of.k in
    let a = answered roll_of k orders before begin long count of.answer in
    let within : RequestWithin k orders = record { low_sums = a.two; none-unused = a.three; in-full = in-full } in
    let few : length (terms_of k orders) ≤ most_terms = ltb-false most_terms (length (terms_of k orders)) a.four in
    let most = within-most (record { kind = k; orders = take (orders_of k) orders; terms = terms_of k orders }) (roll-fits k orders within few) in
    omega (arith, a.long-is, kind-most k)

-- the number that include/xewumbal.h states
pub most-is : most_roll ≡ 32505841
unfolding length_of bytes_of groups
most-is = refl
