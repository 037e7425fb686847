-- A form 2 roll that reads is the writing of what it says, and keeps the limits: number by number, from the front.
use Prim.Native.Nat.{ℕ, zero, suc, zero-le, ◌+◌, ◌-◌, ◌≤◌}
use mathlib.Core.Path.{◌≡◌, refl, sym, ap, ◌∙◌}
use mathlib.Core.Bool.{Bool, true, false, cond}
use mathlib.Core.List.{List, [], ◌∷◌, ◌++◌}
use native.Mathlib.Omega.{arith}
use borrow.Author.Tests.{eqb-true}
use lib.Dec.{eqb}
use lib.ListN.{length, take, drop, length-append}
use lib.Seq.{drop-length, length-take-le}
use Rattle.kind.specs.Limits.{most_scale}
use Rattle.kind.specs.Kinds.{number_of, table_of, most_prefactors}
use Rattle.kind.specs.declared.Kind.{Kind}
use Rattle.kind.specs.declared.Kind.TheVariants.{Coulomb}
use Rattle.kind.proofs.Within.{some-entries}
use Rattle.laws.proofs.Cases.{clash}
use Rattle.laws.proofs.Lists.{drop-then}
use Rattle.laws.specs.Total.{total}
use Rattle.number.specs.Numbers.{bytes_of, Bytes}
use Rattle.term.specs.Terms.{Term}
use Rattle.roll.specs.Bytes.{numbers_bytes}
use Rattle.roll.specs.Reading.{Reading, got, refused, and_then, before, most_boys, Header, Roll}
use Rattle.roll.specs.Fits.{Below, TermFits, TermsFit, RollFits}
use Rattle.roll.proofs.Filling.{before-is, and_then-is}
use Rattle.roll.proofs.JudgeLaws.{none_left}
use Rattle.roll.proofs.TermsLaws.{prefactors-length}
use Rattle.roll.proofs.Written.{taken-bytes, prefactors-bytes, head_bytes}
use Rattle.form2.specs.Bytes.{form_two, shared, further_of, term_bytes2, terms_bytes2, roll_bytes2}
use Rattle.form2.specs.Reading.{header_at2, term_after, terms_after, roll_at2}
use Rattle.form2.proofs.Sharing.{shared-is, further-is}
use Rattle.form2.proofs.Inside.{front_read, further-read, prefactors-below, term-read2, header-read2}
use Rattle.kind.specs.declared.refusals.Refusal.TheVariants.{BadRoll}

-- ---- the term before

pub record EarlierFits (k : Kind) (l : ℕ) (earlier : List ℕ) : Type 0 where
  pub count : length earlier ≤ most_prefactors k l
  pub prefactors : Below (table_of k) earlier

pub none-fits : (k : Kind) (l : ℕ) → EarlierFits k l []
none-fits k l = record { count = zero-le; prefactors = tt }

pub term-earlier : (k : Kind) (l : ℕ) (t : Term) → TermFits k l t → EarlierFits k l t.prefactors
term-earlier k l t fit = record { count = fit.count; prefactors = fit.prefactors }

below-joined : (table n : ℕ) (qs ps : List ℕ) → Below table qs → Below table ps → Below table (take n qs ++ ps)
below-joined table zero qs ps a b = b
below-joined table (suc n) [] ps a b = b
below-joined table (suc n) (q ∷ qs) ps a b = (a.0, below-joined table n qs ps a.1 b)

-- ---- a term

-- a term keeps the limits, where the one before it does
pub term-fits2 : (k : Kind) (l : ℕ) (earlier s : List ℕ) (at : ℕ) (t : Term) (next : ℕ) → EarlierFits k l earlier → term_after s at k l earlier ≡ got t next → TermFits k l t
term-fits2 k l earlier s at t next old e =
    let r = term-read2 k l earlier s at t next e in
    let f = r.front in
    let n = f.shared in
    let x = front_read k l (length earlier) s at f r.place r.numbers in
    let y = further-read f.further (table_of k) (drop n earlier) s r.place r.further next r.reads in
    let long : length r.further ≡ f.further = prefactors-length f.further (table_of k) s r.place r.further next y.0 in
    let within = x.shared.below in
    let few = x.further.below in
    let most = old.count in
    rw r.is
    (record {
      scale-least = x.scale.above;
      scale = x.scale.below;
      boys = x.boys.below;
      count = omega (arith, length-append (take n earlier) r.further, length-take-le n earlier within, long);
      prefactors = below-joined (table_of k) n earlier r.further old.prefactors (prefactors-below f.further (table_of k) s r.place r.further next (some-entries k) y.0);
    })

-- bytes of five numbers, one after the other
five-then : (s ps bs cs ds es : List ℕ) (at a b c d e : ℕ) → drop at s ≡ ps ++ drop a s → drop a s ≡ bs ++ drop b s → drop b s ≡ cs ++ drop c s → drop c s ≡ ds ++ drop d s → drop d s ≡ es ++ drop e s → drop at s ≡ (ps ++ (bs ++ (cs ++ (ds ++ es)))) ++ drop e s
five-then s ps bs cs ds es at a b c d e p q r t u =
    drop-then s ps (bs ++ (cs ++ (ds ++ es))) at a e p
    (drop-then s bs (cs ++ (ds ++ es)) a b e q (drop-then s cs (ds ++ es) b c e r (drop-then s ds es c d e t u)))

pub term-bytes2 : (k : Kind) (l : ℕ) (earlier s : List ℕ) (at : ℕ) (t : Term) (next : ℕ) → Bytes s → term_after s at k l earlier ≡ got t next → drop at s ≡ term_bytes2 earlier t ++ drop next s
unfolding term_bytes2
term-bytes2 k l earlier s at t next bytes e =
    let r = term-read2 k l earlier s at t next e in
    let f = r.front in
    let n = f.shared in
    let x = front_read k l (length earlier) s at f r.place r.numbers in
    let y = further-read f.further (table_of k) (drop n earlier) s r.place r.further next r.reads in
    let ps = prefactors-bytes f.further (table_of k) s r.place r.further next bytes (some-entries k) y.0 in
    let long : length r.further ≡ f.further = prefactors-length f.further (table_of k) s r.place r.further next y.0 in
    let within = x.shared.below in
    let same : shared earlier (take n earlier ++ r.further) ≡ n = shared-is n earlier r.further within y.1 in
    let rest : further_of earlier (take n earlier ++ r.further) ≡ r.further = further-is n earlier r.further within y.1 in
    let count : drop x.c s ≡ bytes_of (length r.further) ++ drop r.place s = taken-bytes s x.c 0 (most_prefactors k l - n) f.further r.place bytes x.further ∙ ap (λ (m : ℕ). bytes_of m ++ drop r.place s) (sym long) in
    rw r.is
    (rw (same, rest)
    (five-then s (bytes_of f.scale) (bytes_of f.boys) (bytes_of n) (bytes_of (length r.further)) (numbers_bytes r.further) at x.a x.b x.c r.place next
    (taken-bytes s at 1 most_scale f.scale x.a bytes x.scale)
    (taken-bytes s x.a 0 (most_boys k l) f.boys x.b bytes x.boys)
    (taken-bytes s x.b 0 (length earlier) n x.c bytes x.shared)
    count
    ps.0))

-- ---- the terms

record TermsRead2 (left : ℕ) (k : Kind) (l : ℕ) (earlier s : List ℕ) (at : ℕ) (ts : List Term) (end : ℕ) : Type 0 where
  pub bytes : drop at s ≡ terms_bytes2 earlier ts
  pub fit : TermsFit k l ts
  pub count : length ts ≡ left
  pub ends : end ≡ length s

terms-none2 : (k : Kind) (l : ℕ) (earlier s : List ℕ) (at : ℕ) (ts : List Term) (end : ℕ) → terms_after s at 0 k l earlier ≡ got ts end → TermsRead2 0 k l earlier s at ts end
unfolding terms_after terms_bytes2
terms-none2 k l earlier s at ts end e = by (eqb at (length s)) refl e
  where
    by : (b : Bool) → eqb at (length s) ≡ b → cond b (got [] at) (refused BadRoll at) ≡ got ts end → TermsRead2 0 k l earlier s at ts end
    by true t e =
        let none : [] ≡ ts = cc in
        let place : at ≡ length s = eqb-true at (length s) t in
        let same : at ≡ end = cc in
        let nothing : drop at s ≡ [] = ap (λ (n : ℕ). drop n s) place ∙ drop-length s in
        rw (← none) (record { bytes = nothing; fit = tt; count = refl; ends = sym same ∙ place })
    by false f e = absurd (clash (cc))

terms-read2 : (left : ℕ) (k : Kind) (l : ℕ) (earlier s : List ℕ) (at : ℕ) (ts : List Term) (end : ℕ) → Bytes s → EarlierFits k l earlier → terms_after s at left k l earlier ≡ got ts end → TermsRead2 left k l earlier s at ts end
unfolding terms_after terms_bytes2
terms-read2 zero k l earlier s at ts end bytes old e = terms-none2 k l earlier s at ts end e
terms-read2 (suc left) k l earlier s at ts end bytes old e =
    let x = and_then-is (term_after s at k l earlier) (λ t next. before (t ∷ []) (terms_after s next left k l t.prefactors)) ts end e in
    let b = before-is x.0 (terms_after s x.1 left k l x.0.prefactors) ts end x.3 in
    let t = term-bytes2 k l earlier s at x.0 x.1 bytes x.2 in
    let fit = term-fits2 k l earlier s at x.0 x.1 old x.2 in
    let r = terms-read2 left k l x.0.prefactors s x.1 b.0 end bytes (term-earlier k l x.0 fit) b.1 in
    rw b.2
    (record {
      bytes = t ∙ ap (λ (l : List ℕ). term_bytes2 earlier x.0 ++ l) r.bytes;
      fit = (fit, r.fit);
      count = ap suc r.count;
      ends = r.ends;
    })

-- as many terms as were asked for
pub terms-count2 : (left : ℕ) (k : Kind) (l : ℕ) (earlier s : List ℕ) (at : ℕ) (ts : List Term) (end : ℕ) → terms_after s at left k l earlier ≡ got ts end → length ts ≡ left
unfolding terms_after
terms-count2 zero k l earlier s at ts end e = rw (none_left at ts end (eqb at (length s)) e)
terms-count2 (suc left) k l earlier s at ts end e =
    let x = and_then-is (term_after s at k l earlier) (λ t next. before (t ∷ []) (terms_after s next left k l t.prefactors)) ts end e in
    let b = before-is x.0 (terms_after s x.1 left k l x.0.prefactors) ts end x.3 in
    rw b.2 (ap suc (terms-count2 left k l x.0.prefactors s x.1 b.0 end b.1))

-- ---- the roll

-- a roll that reads is the writing of what it says, and keeps the limits
pub roll-read2 : (s : List ℕ) (r : Roll) (end : ℕ) → Bytes s → roll_at2 s ≡ got r end → (s ≡ roll_bytes2 r.kind r.orders r.terms) × RollFits r
unfolding roll_at2 roll_bytes2
roll-read2 s r end bytes e =
    let x = and_then-is (header_at2 s) (λ h next. and_then (terms_after s next h.terms h.kind (total h.orders) []) (made h)) r end e in
    let h = x.0 in
    let y = and_then-is (terms_after s x.1 h.terms h.kind (total h.orders) []) (made h) r end x.3 in
    let is : record { kind = h.kind; orders = h.orders; terms = y.0 } ≡ r = cc y.3 in
    let hr = header-read2 s h x.1 x.2 in
    let hb = head_bytes s hr.a hr.b h x.1 bytes hr.orders hr.terms in
    let tr = terms-read2 h.terms h.kind (total h.orders) [] s x.1 y.0 y.1 bytes (none-fits h.kind (total h.orders)) y.2 in
    let count : bytes_of h.terms ≡ bytes_of (length y.0) = ap bytes_of (sym tr.count) in
    let after : bytes_of h.terms ++ drop x.1 s ≡ bytes_of (length y.0) ++ terms_bytes2 [] y.0 = cc (count, tr.bytes) in
    let all : s ≡ bytes_of (form_two + number_of h.kind) ++ (numbers_bytes h.orders ++ (bytes_of (length y.0) ++ terms_bytes2 [] y.0)) =
    taken-bytes s 0 form_two (form_two + number_of Coulomb) (form_two + number_of h.kind) hr.a bytes hr.kind
    ∙ ap (λ (l : List ℕ). bytes_of (form_two + number_of h.kind) ++ l) (hb.bytes ∙ ap (λ (l : List ℕ). numbers_bytes h.orders ++ l) after) in
    let some = hr.terms.above in
    let most = hr.terms.below in
    rw (← is) (
      all,
      record {
        places = hb.places;
        sums = hb.sums;
        terms-least = omega (arith, tr.count);
        most = omega (arith, tr.count);
        terms = tr.fit;
      },
    )
  where
    made : Header → List Term → ℕ → Reading Roll
    made h ts end = got (record { kind = h.kind; orders = h.orders; terms = ts }) end

-- two form 2 rolls that read the same are the same bytes
pub roll-only2 : (s t : List ℕ) (r : Roll) (end end' : ℕ) → Bytes s → Bytes t → roll_at2 s ≡ got r end → roll_at2 t ≡ got r end' → s ≡ t
roll-only2 s t r end end' bs bt es et = (roll-read2 s r end bs es).0 ∙ sym (roll-read2 t r end' bt et).0
