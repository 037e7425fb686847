-- A roll that reads is the writing of what it says, and keeps the limits: number by number, from the front.
use Prim.Native.Nat.{ℕ, zero, suc, ◌+◌, ◌-◌, ◌≤◌}
use mathlib.Core.Path.{◌≡◌, refl, sym, ap, ◌∙◌}
use mathlib.Core.Bool.{Bool, true, false, cond}
use mathlib.Core.List.{List, [], ◌∷◌, ◌++◌}
use native.Mathlib.Omega.{arith}
use borrow.Author.Tests.{eqb-true}
use lib.Dec.{eqb}
use lib.ListN.{length, drop}
use lib.Seq.{drop-length}
use Rattle.kind.specs.Limits.{most_order, most_scale, most_terms}
use Rattle.kind.specs.Kinds.{number_of, orders_of, table_of, most_prefactors}
use Rattle.kind.specs.declared.Kind.{Kind}
use Rattle.kind.specs.declared.Kind.TheVariants.{Overlap, Kinetic, Nuclear, Moment, Coulomb}
use Rattle.laws.proofs.Cases.{clash}
use Rattle.laws.proofs.Lists.{drop-then}
use Rattle.kind.proofs.Within.{some-entries}
use Rattle.number.specs.Numbers.{bytes_of, Bytes}
use Rattle.number.proofs.Laws.{reads_only}
use Rattle.term.specs.Terms.{Term}
use Rattle.roll.specs.Bytes.{numbers_bytes, term_bytes, terms_bytes, roll_bytes}
use Rattle.laws.specs.Total.{total}
use Rattle.roll.specs.Reading.{got, refused, and_then, before, within_at, prefactors_at, most_boys, term_at, terms_at, sum_after, orders_at, Header, header_at, Roll, roll_at}
use Rattle.roll.specs.Fits.{CentresFit, Below, TermFits, TermsFit, RollFits}
use Rattle.roll.proofs.FieldLaws.{Taken, taken}
use Rattle.roll.proofs.Filling.{before-is, onward-is, and_then-is}
use Rattle.roll.proofs.Inside.{term-read, header_read, Centre, centre}
use Rattle.kind.specs.declared.refusals.Refusal.TheVariants.{BadRoll}

pub taken-bytes : (s : List ℕ) (at low high n next : ℕ) → Bytes s → Taken s at low high n next → drop at s ≡ bytes_of n ++ drop next s
taken-bytes s at low high n next bytes t = (reads_only s at n next bytes t.read).bytes

pub prefactors-bytes : (count table : ℕ) (s : List ℕ) (at : ℕ) (ps : List ℕ) (next : ℕ) → Bytes s → 1 ≤ table → prefactors_at s at count table ≡ got ps next → (drop at s ≡ numbers_bytes ps ++ drop next s) × Below table ps
unfolding prefactors_at numbers_bytes
prefactors-bytes zero table s at ps next bytes some e =
    let none : [] ≡ ps = cc in
    let same : at ≡ next = cc in
    rw (← none, ← same) (refl, tt)
prefactors-bytes (suc count) table s at ps next bytes some e =
    let o = onward-is (within_at s at 0 (table - 1)) (λ p n. before (p ∷ []) (prefactors_at s n count table)) ps next e in
    let b = before-is o.0 (prefactors_at s o.1 count table) ps next o.3 in
    let t = taken s at 0 (table - 1) (within_at s at 0 (table - 1)) o.0 o.1 refl o.2 in
    let rest = prefactors-bytes count table s o.1 b.0 next bytes some b.1 in
    let below = t.below in
    rw b.2 (drop-then s (bytes_of o.0) (numbers_bytes b.0) at o.1 next (taken-bytes s at 0 (table - 1) o.0 o.1 bytes t) rest.0, (omega arith, rest.1))

pub term-bytes : (k : Kind) (l : ℕ) (s : List ℕ) (at : ℕ) (t : Term) (next : ℕ) → Bytes s → term_at s at k l ≡ got t next → (drop at s ≡ term_bytes t ++ drop next s) × TermFits k l t
unfolding term_bytes
term-bytes k l s at t next bytes e =
    let r = term-read k l s at t next e in
    let ps = prefactors-bytes (length t.prefactors) (table_of k) s r.c t.prefactors next bytes (some-entries k) r.prefactors in
    let count = drop-then s (bytes_of (length t.prefactors)) (numbers_bytes t.prefactors) r.b r.c next (taken-bytes s r.b 0 (most_prefactors k l) (length t.prefactors) r.c bytes r.count) ps.0 in
    let boys = drop-then s (bytes_of t.boys) (bytes_of (length t.prefactors) ++ numbers_bytes t.prefactors) r.a r.b next (taken-bytes s r.a 0 (most_boys k l) t.boys r.b bytes r.boys) count in (
      drop-then s (bytes_of t.scale) (bytes_of t.boys ++ (bytes_of (length t.prefactors) ++ numbers_bytes t.prefactors)) at r.a next (taken-bytes s at 1 most_scale t.scale r.a bytes r.scale) boys,
      record { scale-least = r.scale.above; scale = r.scale.below; boys = r.boys.below; count = r.count.below; prefactors = ps.1 },
    )

record TermsRead (left : ℕ) (k : Kind) (l : ℕ) (s : List ℕ) (at : ℕ) (ts : List Term) (end : ℕ) : Type 0 where
  pub bytes : drop at s ≡ terms_bytes ts
  pub fit : TermsFit k l ts
  pub count : length ts ≡ left
  pub ends : end ≡ length s

terms-none : (k : Kind) (l : ℕ) (s : List ℕ) (at : ℕ) (ts : List Term) (end : ℕ) → terms_at s at 0 k l ≡ got ts end → TermsRead 0 k l s at ts end
unfolding terms_at terms_bytes
terms-none k l s at ts end e = by (eqb at (length s)) refl e
  where
    by : (b : Bool) → eqb at (length s) ≡ b → cond b (got [] at) (refused BadRoll at) ≡ got ts end → TermsRead 0 k l s at ts end
    by true t e =
        let none : [] ≡ ts = cc in
        let place : at ≡ length s = eqb-true at (length s) t in
        let same : at ≡ end = cc in
        let nothing : drop at s ≡ [] = ap (λ (n : ℕ). drop n s) place ∙ drop-length s in
        rw (← none) (record { bytes = nothing; fit = tt; count = refl; ends = sym same ∙ place })
    by false f e = absurd (clash (cc))

terms-read : (left : ℕ) (k : Kind) (l : ℕ) (s : List ℕ) (at : ℕ) (ts : List Term) (end : ℕ) → Bytes s → terms_at s at left k l ≡ got ts end → TermsRead left k l s at ts end
unfolding terms_at terms_bytes
terms-read zero k l s at ts end bytes e = terms-none k l s at ts end e
terms-read (suc left) k l s at ts end bytes e =
    let x = and_then-is (term_at s at k l) (λ t next. before (t ∷ []) (terms_at s next left k l)) ts end e in
    let b = before-is x.0 (terms_at s x.1 left k l) ts end x.3 in
    let t = term-bytes k l s at x.0 x.1 bytes x.2 in
    let r = terms-read left k l s x.1 b.0 end bytes b.1 in
    rw b.2
    (record {
      bytes = t.0 ∙ ap (λ (l : List ℕ). term_bytes x.0 ++ l) r.bytes;
      fit = (t.1, r.fit);
      count = ap suc r.count;
      ends = r.ends;
    })

-- ---- the orders

orders_bytes : (n i sum : ℕ) (s : List ℕ) (at : ℕ) (os : List ℕ) (next : ℕ) → Bytes s → orders_at s at n i sum ≡ got os next → (drop at s ≡ numbers_bytes os ++ drop next s) × (length os ≡ n)
unfolding orders_at numbers_bytes
orders_bytes zero i sum s at os next bytes e =
    let none : [] ≡ os = cc in
    let same : at ≡ next = cc in
    rw (← none, ← same) (refl, refl)
orders_bytes (suc n) i sum s at os next bytes e =
    let o = onward-is (within_at s at 0 (most_order - sum)) (λ o m. before (o ∷ []) (orders_at s m n (i + 1) (sum_after i sum o))) os next e in
    let b = before-is o.0 (orders_at s o.1 n (i + 1) (sum_after i sum o.0)) os next o.3 in
    let t = taken s at 0 (most_order - sum) (within_at s at 0 (most_order - sum)) o.0 o.1 refl o.2 in
    let rest = orders_bytes n (i + 1) (sum_after i sum o.0) s o.1 b.0 next bytes b.1 in
    rw b.2 (drop-then s (bytes_of o.0) (numbers_bytes b.0) at o.1 next (taken-bytes s at 0 (most_order - sum) o.0 o.1 bytes t) rest.0, ap suc rest.1)

none-fit : (i : ℕ) (s : List ℕ) (at : ℕ) (os : List ℕ) (next : ℕ) → orders_at s at 0 i 0 ≡ got os next → CentresFit os
unfolding orders_at
none-fit i s at os next e = let none : [] ≡ os = cc in rw (← none) tt

centre-fit : (n i : ℕ) (s : List ℕ) (os : List ℕ) (next : ℕ) (c : Centre n i s os next) → CentresFit c.rest → CentresFit os
centre-fit n i s os next c rest = rw c.is (c.fits, rest)

two-fit : (s : List ℕ) (at : ℕ) (os : List ℕ) (next : ℕ) → orders_at s at 6 0 0 ≡ got os next → CentresFit os
two-fit s at os next e =
    let a = centre 3 0 s at os next refl e in
    let b = centre 0 3 s a.place a.rest next refl a.onward in
    centre-fit 3 0 s os next a (centre-fit 0 3 s a.rest next b (none-fit 6 s b.place b.rest next b.onward))

orders-fit : (k : Kind) (s : List ℕ) (at : ℕ) (os : List ℕ) (next : ℕ) → orders_at s at (orders_of k) 0 0 ≡ got os next → CentresFit os
orders-fit Overlap s at os next e = two-fit s at os next e
orders-fit Kinetic s at os next e = two-fit s at os next e
orders-fit Nuclear s at os next e = two-fit s at os next e
orders-fit Moment s at os next e =
    let a = centre 6 0 s at os next refl e in
    let b = centre 3 3 s a.place a.rest next refl a.onward in
    let c = centre 0 6 s b.place b.rest next refl b.onward in
    centre-fit 6 0 s os next a (centre-fit 3 3 s a.rest next b (centre-fit 0 6 s b.rest next c (none-fit 9 s c.place c.rest next c.onward)))
orders-fit Coulomb s at os next e =
    let a = centre 9 0 s at os next refl e in
    let b = centre 6 3 s a.place a.rest next refl a.onward in
    let c = centre 3 6 s b.place b.rest next refl b.onward in
    let d = centre 0 9 s c.place c.rest next refl c.onward in
    centre-fit 9 0 s os next a (centre-fit 6 3 s a.rest next b (centre-fit 3 6 s b.rest next c (centre-fit 0 9 s c.rest next d (none-fit 12 s d.place d.rest next d.onward))))

-- ---- a header from its orders on

pub record HeadBytes (s : List ℕ) (at : ℕ) (h : Header) (next : ℕ) : Type 0 where
  pub bytes : drop at s ≡ numbers_bytes h.orders ++ (bytes_of h.terms ++ drop next s)
  pub places : length h.orders ≡ orders_of h.kind
  pub sums : CentresFit h.orders

pub head_bytes : (s : List ℕ) (at b : ℕ) (h : Header) (next : ℕ) → Bytes s → orders_at s at (orders_of h.kind) 0 0 ≡ got h.orders b → Taken s b 1 most_terms h.terms next → HeadBytes s at h next
head_bytes s at b h next bytes orders terms =
    let os = orders_bytes (orders_of h.kind) 0 0 s at h.orders b bytes orders in
    record {
      bytes = os.0 ∙ ap (λ (l : List ℕ). numbers_bytes h.orders ++ l) (taken-bytes s b 1 most_terms h.terms next bytes terms);
      places = os.1;
      sums = orders-fit h.kind s at h.orders b orders;
    }

-- ---- the roll

-- a roll that reads is the writing of what it says, and keeps the limits
pub roll-read : (s : List ℕ) (r : Roll) (end : ℕ) → Bytes s → roll_at s ≡ got r end → (s ≡ roll_bytes r.kind r.orders r.terms) × RollFits r
unfolding roll_at roll_bytes
roll-read s r end bytes e =
    let x = and_then-is (header_at s) (λ h next. and_then (terms_at s next h.terms h.kind (total h.orders)) (λ ts end. got (record { kind = h.kind; orders = h.orders; terms = ts }) end)) r end e in
    let h = x.0 in
    let y = and_then-is (terms_at s x.1 h.terms h.kind (total h.orders)) (λ ts end. got (record { kind = h.kind; orders = h.orders; terms = ts }) end) r end x.3 in
    let made : record { kind = h.kind; orders = h.orders; terms = y.0 } ≡ r = cc y.3 in
    let hr = header_read s h x.1 x.2 in
    let hb = head_bytes s hr.a hr.b h x.1 bytes hr.orders hr.terms in
    let tr = terms-read h.terms h.kind (total h.orders) s x.1 y.0 y.1 bytes y.2 in
    let count : bytes_of h.terms ≡ bytes_of (length y.0) = ap bytes_of (sym tr.count) in
    let after : bytes_of h.terms ++ drop x.1 s ≡ bytes_of (length y.0) ++ terms_bytes y.0 = cc (count, tr.bytes) in
    let all : s ≡ bytes_of (number_of h.kind) ++ (numbers_bytes h.orders ++ (bytes_of (length y.0) ++ terms_bytes y.0)) =
    taken-bytes s 0 0 (number_of Coulomb) (number_of h.kind) hr.a bytes hr.kind
    ∙ ap (λ (l : List ℕ). bytes_of (number_of h.kind) ++ l) (hb.bytes ∙ ap (λ (l : List ℕ). numbers_bytes h.orders ++ l) after) in
    let some = hr.terms.above in
    let most = hr.terms.below in
    rw (← made) (
      all,
      record {
        places = hb.places;
        sums = hb.sums;
        terms-least = omega (arith, tr.count);
        most = omega (arith, tr.count);
        terms = tr.fit;
      },
    )

-- two rolls that read the same are the same bytes
pub roll-only : (s t : List ℕ) (r : Roll) (end end' : ℕ) → Bytes s → Bytes t → roll_at s ≡ got r end → roll_at t ≡ got r end' → s ≡ t
roll-only s t r end end' bs bt es et = (roll-read s r end bs es).0 ∙ sym (roll-read t r end' bt et).0
