-- What a reading that succeeds has read, number by number; it ends inside the roll, and keeps the kind's limits.
use Prim.Native.Nat.{ℕ, zero, suc, ◌+◌, ◌*◌, ◌-◌, ◌%◌, ◌≤◌, ◌<◌}
use mathlib.Core.Path.{◌≡◌, refl, sym, ap, ◌∙◌}
use mathlib.Core.List.{List, [], ◌∷◌}
use native.Mathlib.Omega.{arith}
use borrow.Author.Tests.{eq-eqb, ne_eqb}
use lib.ListN.{length}
use Rattle.kind.specs.Limits.{most_order, most_scale, most_terms}
use Rattle.kind.specs.Kinds.{kind_of, number_of, orders_of, table_of, most_l, most_prefactors}
use Rattle.kind.specs.declared.Kind.{Kind}
use Rattle.kind.specs.declared.Kind.TheVariants.{Overlap, Kinetic, Nuclear, Moment, Coulomb}
use Rattle.kind.proofs.KindNumber.{number-kind}
use Rattle.laws.proofs.Cases.{clash}
use Rattle.number.proofs.Reading.{read-inside}
use Rattle.term.specs.Terms.{Term}
use Rattle.laws.specs.Total.{total}
use Rattle.roll.specs.Reading.{got, and_then, before, within_at, prefactors_at, most_boys, count_at, boys_at, term_at, sum_after, orders_at, Header, counted_at, of_kind, header_at}
use Rattle.roll.proofs.FieldLaws.{Taken, taken}
use Rattle.roll.proofs.Filling.{before-is, onward-is, and_then-is}
use Rattle.roll.proofs.TermsLaws.{prefactors-length}
use Rattle.std.specs.Prelude.{Option, Some, None}

pub taken-inside : (s : List ℕ) (at low high n next : ℕ) → Taken s at low high n next → (at < next) × (next ≤ length s)
taken-inside s at low high n next t = read-inside s at n next t.read

-- ---- a term

pub record TermRead (k : Kind) (l : ℕ) (s : List ℕ) (at : ℕ) (t : Term) (next : ℕ) : Type 0 where
  pub a : ℕ
  pub b : ℕ
  pub c : ℕ
  pub scale : Taken s at 1 most_scale t.scale a
  pub boys : Taken s a 0 (most_boys k l) t.boys b
  pub count : Taken s b 0 (most_prefactors k l) (length t.prefactors) c
  pub prefactors : prefactors_at s c (length t.prefactors) (table_of k) ≡ got t.prefactors next

pub term-read : (k : Kind) (l : ℕ) (s : List ℕ) (at : ℕ) (t : Term) (next : ℕ) → term_at s at k l ≡ got t next → TermRead k l s at t next
unfolding term_at boys_at count_at
term-read k l s at t next e =
    let x = onward-is (within_at s at 1 most_scale) (λ scale m. boys_at s m k l scale) t next e in
    let y = onward-is (within_at s x.1 0 (most_boys k l)) (λ boys m. count_at s m k l x.0 boys) t next x.3 in
    let z = onward-is (within_at s y.1 0 (most_prefactors k l)) (λ count m. and_then (prefactors_at s m count (table_of k)) (λ ps end. got (record { scale = x.0; boys = y.0; prefactors = ps }) end)) t next y.3 in
    let w = and_then-is (prefactors_at s z.1 z.0 (table_of k)) (λ ps end. got (record { scale = x.0; boys = y.0; prefactors = ps }) end) t next z.3 in
    let term : record { scale = x.0; boys = y.0; prefactors = w.0 } ≡ t = cc w.3 in
    let end : w.1 ≡ next = cc w.3 in
    let scale : x.0 ≡ t.scale = ap (λ (t : Term). t.scale) term in
    let boys : y.0 ≡ t.boys = ap (λ (t : Term). t.boys) term in
    let ps : w.0 ≡ t.prefactors = ap (λ (t : Term). t.prefactors) term in
    let long : length t.prefactors ≡ z.0 = ap length (sym ps) ∙ prefactors-length z.0 (table_of k) s z.1 w.0 w.1 w.2 in
    record {
      a = x.1;
      b = y.1;
      c = z.1;
      scale = rw scale at (taken s at 1 most_scale (within_at s at 1 most_scale) x.0 x.1 refl x.2);
      boys = rw boys at (taken s x.1 0 (most_boys k l) (within_at s x.1 0 (most_boys k l)) y.0 y.1 refl y.2);
      count = rw long (taken s y.1 0 (most_prefactors k l) (within_at s y.1 0 (most_prefactors k l)) z.0 z.1 refl z.2);
      prefactors = cc (long, w.2, ps, end);
    }

pub prefactors-inside : (count table : ℕ) (s : List ℕ) (at : ℕ) (ps : List ℕ) (next : ℕ) → at ≤ length s → prefactors_at s at count table ≡ got ps next → next ≤ length s
unfolding prefactors_at
prefactors-inside zero table s at ps next inside e = let same : at ≡ next = cc in omega arith
prefactors-inside (suc count) table s at ps next inside e =
    let o = onward-is (within_at s at 0 (table - 1)) (λ p n. before (p ∷ []) (prefactors_at s n count table)) ps next e in
    let b = before-is o.0 (prefactors_at s o.1 count table) ps next o.3 in
    let t = taken-inside s at 0 (table - 1) o.0 o.1 (taken s at 0 (table - 1) (within_at s at 0 (table - 1)) o.0 o.1 refl o.2) in
    prefactors-inside count table s o.1 b.0 next t.1 b.1

pub term-inside : (k : Kind) (l : ℕ) (s : List ℕ) (at : ℕ) (t : Term) (next : ℕ) → term_at s at k l ≡ got t next → next ≤ length s
term-inside k l s at t next e =
    let r = term-read k l s at t next e in
    prefactors-inside (length t.prefactors) (table_of k) s r.c t.prefactors next (taken-inside s r.b 0 (most_prefactors k l) (length t.prefactors) r.c r.count).1 r.prefactors

-- ---- the header

pub record HeaderRead (s : List ℕ) (h : Header) (next : ℕ) : Type 0 where
  pub a : ℕ
  pub b : ℕ
  pub kind : Taken s 0 0 (number_of Coulomb) (number_of h.kind) a
  pub orders : orders_at s a (orders_of h.kind) 0 0 ≡ got h.orders b
  pub terms : Taken s b 1 most_terms h.terms next

counted-read : (k : Kind) (orders : List ℕ) (s : List ℕ) (at : ℕ) (h : Header) (next : ℕ) → counted_at s at k orders ≡ got h next → (h.kind ≡ k) × (h.orders ≡ orders) × Taken s at 1 most_terms h.terms next
unfolding counted_at
counted-read k orders s at h next e =
    let x = onward-is (within_at s at 1 most_terms) (λ count m. got (record { kind = k; orders = orders; terms = count }) m) h next e in
    let made : record { kind = k; orders = orders; terms = x.0 } ≡ h = cc x.3 in
    let end : x.1 ≡ next = cc x.3 in (
      sym (ap (λ (h : Header). h.kind) made),
      sym (ap (λ (h : Header). h.orders) made),
      rw (ap (λ (h : Header). h.terms) made, end) at (taken s at 1 most_terms (within_at s at 1 most_terms) x.0 x.1 refl x.2),
    )

-- a header from its orders on
pub kind-read : (m : Option Kind) (n : ℕ) (s : List ℕ) (at : ℕ) (h : Header) (next : ℕ) → kind_of n ≡ m → of_kind s at m ≡ got h next → (n ≡ number_of h.kind) × ((b : ℕ) × (orders_at s at (orders_of h.kind) 0 0 ≡ got h.orders b) × Taken s b 1 most_terms h.terms next)
kind-read (Some k) n s at h next is e =
    let x = and_then-is (orders_at s at (orders_of k) 0 0) (λ orders m. counted_at s m k orders) h next e in
    let c = counted-read k x.0 s x.1 h next x.3 in
    let kind : h.kind ≡ k = c.0 in (
      number-kind n k is ∙ ap number_of (sym kind),
      (x.1, ap (λ (count : ℕ). orders_at s at count 0 0) (ap orders_of kind) ∙ x.2 ∙ ap (λ (l : List ℕ). got l x.1) (sym c.1), c.2),
    )
kind-read None n s at h next is e = absurd (clash (cc))

pub header_read : (s : List ℕ) (h : Header) (next : ℕ) → header_at s ≡ got h next → HeaderRead s h next
unfolding header_at
header_read s h next e =
    let x = onward-is (within_at s 0 0 (number_of Coulomb)) (λ n m. of_kind s m (kind_of n)) h next e in
    let k = kind-read (kind_of x.0) x.0 s x.1 h next refl x.3 in
    record {
      a = x.1;
      b = k.1.0;
      kind = rw k.0 at (taken s 0 0 (number_of Coulomb) (within_at s 0 0 (number_of Coulomb)) x.0 x.1 refl x.2);
      orders = k.1.1;
      terms = k.1.2;
    }

pub header-inside : (s : List ℕ) (h : Header) (next : ℕ) → HeaderRead s h next → next ≤ length s
header-inside s h next r = (taken-inside s r.b 1 most_terms h.terms next r.terms).1

-- ---- the orders' sums

-- one order read, and the rest
order-turn : (n i sum : ℕ) (s : List ℕ) (at : ℕ) (os : List ℕ) (next : ℕ) → orders_at s at (suc n) i sum ≡ got os next → (o : ℕ) × (rest : List ℕ) × (m : ℕ) × (o ≤ most_order - sum) × (os ≡ o ∷ rest) × (orders_at s m n (i + 1) (sum_after i sum o) ≡ got rest next)
unfolding orders_at
order-turn n i sum s at os next e =
    let x = onward-is (within_at s at 0 (most_order - sum)) (λ o m. before (o ∷ []) (orders_at s m n (i + 1) (sum_after i sum o))) os next e in
    let b = before-is x.0 (orders_at s x.1 n (i + 1) (sum_after i sum x.0)) os next x.3 in
    (x.0, b.0, x.1, (taken s at 0 (most_order - sum) (within_at s at 0 (most_order - sum)) x.0 x.1 refl x.2).below, b.2, b.1)

-- a centre's three orders keep its limit, and the next centre begins anew
pub record Centre (n i : ℕ) (s : List ℕ) (os : List ℕ) (next : ℕ) : Type 0 where
  pub x : ℕ
  pub y : ℕ
  pub z : ℕ
  pub rest : List ℕ
  pub place : ℕ
  pub fits : x + y + z ≤ most_order
  pub is : os ≡ x ∷ y ∷ z ∷ rest
  pub onward : orders_at s place n (i + 1 + 1 + 1) 0 ≡ got rest next

pub centre : (n i : ℕ) (s : List ℕ) (at : ℕ) (os : List ℕ) (next : ℕ) → i % 3 ≡ 0 → orders_at s at (suc (suc (suc n))) i 0 ≡ got os next → Centre n i s os next
centre n i s at os next phase e =
    let x = order-turn (suc (suc n)) i 0 s at os next e in
    let one : sum_after i 0 x.0 ≡ 0 + x.0 = simp (ne_eqb (i % 3) 2 (λ z. omega arith)) in
    let y = order-turn (suc n) (i + 1) (0 + x.0) s x.2 x.1 next (rw one at x.5) in
    let two : sum_after (i + 1) (0 + x.0) y.0 ≡ 0 + x.0 + y.0 = simp (ne_eqb ((i + 1) % 3) 2 (λ z. omega arith)) in
    let z = order-turn n (i + 1 + 1) (0 + x.0 + y.0) s y.2 y.1 next (rw two at y.5) in
    let anew : sum_after (i + 1 + 1) (0 + x.0 + y.0) z.0 ≡ 0 = simp (eq-eqb ((i + 1 + 1) % 3) 2 (omega arith)) in
    record {
      x = x.0;
      y = y.0;
      z = z.0;
      rest = z.1;
      place = z.2;
      fits = omega (arith, x.3, y.3, z.3);
      is = cc (x.4, y.4, z.4);
      onward = rw anew at z.5;
    }

pub centre-total : (n i : ℕ) (s : List ℕ) (os : List ℕ) (next : ℕ) (c : Centre n i s os next) → total os ≤ most_order + total c.rest
unfolding total
centre-total n i s os next c = omega (arith, c.fits, ap total c.is)

none-total : (i : ℕ) (s : List ℕ) (at : ℕ) (os : List ℕ) (next : ℕ) → orders_at s at 0 i 0 ≡ got os next → total os ≡ 0
unfolding orders_at total
none-total i s at os next e = let none : os ≡ [] = cc in rw none

two-centres : (s : List ℕ) (at : ℕ) (os : List ℕ) (next : ℕ) → orders_at s at 6 0 0 ≡ got os next → total os ≤ 2 * most_order
two-centres s at os next e =
    let a = centre 3 0 s at os next refl e in
    let b = centre 0 3 s a.place a.rest next refl a.onward in
    omega (arith, centre-total 3 0 s os next a, centre-total 0 3 s a.rest next b, none-total 6 s b.place b.rest next b.onward)

-- L is within the kind's limit
pub orders-most : (k : Kind) (s : List ℕ) (at : ℕ) (os : List ℕ) (next : ℕ) → orders_at s at (orders_of k) 0 0 ≡ got os next → total os ≤ most_l k
orders-most Overlap s at os next e = two-centres s at os next e
orders-most Kinetic s at os next e = two-centres s at os next e
orders-most Nuclear s at os next e = two-centres s at os next e
orders-most Moment s at os next e =
    let a = centre 6 0 s at os next refl e in
    let b = centre 3 3 s a.place a.rest next refl a.onward in
    let c = centre 0 6 s b.place b.rest next refl b.onward in
    omega (arith, centre-total 6 0 s os next a, centre-total 3 3 s a.rest next b, centre-total 0 6 s b.rest next c, none-total 9 s c.place c.rest next c.onward)
orders-most Coulomb s at os next e =
    let a = centre 9 0 s at os next refl e in
    let b = centre 6 3 s a.place a.rest next refl a.onward in
    let c = centre 3 6 s b.place b.rest next refl b.onward in
    let d = centre 0 9 s c.place c.rest next refl c.onward in
    omega (arith, centre-total 9 0 s os next a, centre-total 6 3 s a.rest next b, centre-total 3 6 s b.rest next c, centre-total 0 9 s c.rest next d, none-total 12 s d.place d.rest next d.onward)
