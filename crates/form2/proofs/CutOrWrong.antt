-- 02, Q-7: cut or wrong, as for form 1. A form 2 roll that reads, cut anywhere, is refused 14; what is refused 7 stays refused 7 at its place, whatever
-- follows; and no form 2 roll begins another.
use Prim.Native.Nat.{ℕ, zero, suc, zero-le, ◌≤◌, ◌<◌}
use mathlib.Core.Path.{◌≡◌, refl, ap, ◌∙◌}
use mathlib.Core.Bool.{Bool, true, false, cond}
use mathlib.Core.List.{List, [], ◌∷◌, ◌++◌}
use native.Mathlib.Omega.{arith}
use borrow.Author.Tests.{ne_eqb, eqb-true}
use lib.Dec.{eqb}
use lib.ListN.{length, take, drop, length-append, take-append-drop}
use Rattle.kind.specs.declared.Kind.{Kind}
use Rattle.laws.proofs.Cases.{clash}
use Rattle.laws.specs.Total.{total}
use Rattle.term.specs.Terms.{Term}
use Rattle.roll.specs.Reading.{Reading, got, refused, and_then, before, Header, Roll}
use Rattle.std.specs.Prelude.{Result, Ok, Err}
use Rattle.kind.specs.declared.refusals.Fault.{Fault}
use Rattle.kind.proofs.Faults.{err-is, err-both}
use Rattle.roll.specs.declared.header.Opened.{Opened}
use Rattle.roll.specs.Field.{fault}
use Rattle.roll.specs.Header.{held_header}
use Rattle.roll.proofs.Checked.{opened-of}
use Rattle.form2.specs.declared.header.Opened2.{Opened2}
use Rattle.roll.proofs.Filling.{and_then-is}
use Rattle.roll.proofs.Mending.{leads-inside, made_got}
use Rattle.roll.proofs.CutOrWrong.{begins-alike, broken-stays, ends_stay, Ends, cut-ends, begins-shorter, kept-ends}
use Rattle.form2.specs.Reading.{header_at2, term_after, terms_after, roll_at2}
use Rattle.form2.specs.Header.{begun, begun_of, refused_opened2, open2_of, judged2, check2_of}
use Rattle.form2.proofs.Inside.{term-inside2}
use Rattle.form2.proofs.Places.{term-kept2, header-kept2, header-broken2, roll-end2, place-inside2}
use Rattle.form2.proofs.Checked.{beside, whole, refused-checked2, checked-reads2, checked-refused2}
use Rattle.kind.specs.declared.refusals.Refusal.{Refusal}
use Rattle.kind.specs.declared.refusals.Refusal.TheVariants.{BadRoll, CutRoll}

-- ---- wrong stays wrong

header-stays2 : (s t : List ℕ) (r : Refusal) (p : ℕ) → (r ≡ CutRoll → ⊥) → header_at2 s ≡ refused r p → header_at2 (s ++ t) ≡ refused r p
header-stays2 s t r p other e = broken-stays header_at2 s t r p other (header-broken2 s r p e)

pub roll-stays2 : (s t : List ℕ) (r : Refusal) (p : ℕ) → (r ≡ CutRoll → ⊥) → roll_at2 s ≡ refused r p → roll_at2 (s ++ t) ≡ refused r p
roll-stays2 s t r p other e = ends_stay roll_at2 s t r p other e (roll-end2 s r p e)

-- ---- a roll begins no other

terms-longer2 : (left : ℕ) (k : Kind) (l : ℕ) (earlier s t : List ℕ) (at : ℕ) (us : List Term) (end : ℕ) → 0 < length t → terms_after s at left k l earlier ≡ got us end → terms_after (s ++ t) at left k l earlier ≡ refused BadRoll (length s)
unfolding terms_after
terms-longer2 zero k l earlier s t at us end some e = by (eqb at (length s)) refl e
  where
    by : (b : Bool) → eqb at (length s) ≡ b → cond {A = Reading (List Term)} b (got [] at) (refused BadRoll at) ≡ got us end → cond {A = Reading (List Term)} (eqb at (length (s ++ t))) (got [] at) (refused BadRoll at) ≡ refused BadRoll (length s)
    by true is e =
        let here : at ≡ length s = eqb-true at (length s) is in
        rw (ne_eqb at (length (s ++ t)) (λ same. omega (arith, here, same, some, length-append s t))) (ap (refused BadRoll) here)
    by false is e = absurd (clash (cc))
terms-longer2 (suc left) k l earlier s t at us end some e =
    let x = and_then-is (term_after s at k l earlier) (λ u next. before (u ∷ []) (terms_after s next left k l u.prefactors)) us end e in
    let u = x.0 in
    let next = x.1 in
    let kept = term-kept2 k l earlier s at u next x.2 in
    let m = made_got (λ vs. (u ∷ []) ++ vs) (terms_after s next left k l u.prefactors) us end x.3 in
    let again : term_after (s ++ t) at k l earlier ≡ got u next = kept.same (s ++ t) (begins-alike s t next (term-inside2 k l earlier s at u next x.2)) ∙ x.2 in
    ap (λ (y : Reading Term). and_then y (λ u next. before (u ∷ []) (terms_after (s ++ t) next left k l u.prefactors))) again
    ∙ ap (before (u ∷ [])) (terms-longer2 left k l u.prefactors s t next m.0 end some m.1)

roll-longer2 : (s t : List ℕ) (r : Roll) (end : ℕ) → 0 < length t → roll_at2 s ≡ got r end → roll_at2 (s ++ t) ≡ refused BadRoll (length s)
unfolding roll_at2
roll-longer2 s t r end some e =
    let x = and_then-is (header_at2 s) (whole s) r end e in
    let h = x.0 in
    let next = x.1 in
    let kept = header-kept2 s h next x.2 in
    let y = and_then-is (terms_after s next h.terms h.kind (total h.orders) []) (beside h) r end x.3 in
    let again : header_at2 (s ++ t) ≡ got h next = kept.same (s ++ t) (begins-alike s t next (leads-inside zero-le kept.leads)) ∙ x.2 in
    ap (λ (z : Reading Header). and_then z (whole (s ++ t))) again
    ∙ ap (λ (z : Reading (List Term)). and_then z (beside h)) (terms-longer2 h.terms h.kind (total h.orders) [] s t next y.0 y.1 some y.2)

-- ---- what a technician may conclude

pub begins-no-other2 : (s t : List ℕ) (r q : Roll) (end last : ℕ) → roll_at2 s ≡ got r end → roll_at2 (s ++ t) ≡ got q last → t ≡ []
begins-no-other2 s [] r q end last e f = refl
begins-no-other2 s (b ∷ t) r q end last e f = let wrong = roll-longer2 s (b ∷ t) r end (omega arith) e in absurd (clash (cc))

-- cut is always 14
pub roll-cut2 : (s : List ℕ) (r : Roll) (end n : ℕ) → roll_at2 s ≡ got r end → n < length s → Ends n (roll_at2 (take n s))
roll-cut2 s r end n e less =
    cut-ends roll_at2 s r end n e
    (λ q last is. begins-shorter s n less (begins-no-other2 (take n s) (drop n s) q r last end is (rw (take-append-drop n s) e)))
    (λ q p other is. roll-stays2 (take n s) (drop n s) q p other is)
    (λ q p is. place-inside2 (take n s) q p is)

header-cut2 : (s : List ℕ) (h : Header) (next n : ℕ) → header_at2 s ≡ got h next → n < next → Ends n (header_at2 (take n s))
header-cut2 s h next n e less =
    cut-ends header_at2 s h next n e
    (λ g m is. kept-ends header_at2 s h next n e less g m is (header-kept2 (take n s) g m is))
    (λ q p other is. header-stays2 (take n s) (drop n s) q p other is)
    (λ q p is. leads-inside {at = 0} zero-le (header-broken2 (take n s) q p is).leads)

-- ---- as `open2` and `check2` tell it

begun-got : (x : Result Opened Fault) (o : Opened2) → begun_of x ≡ Ok o → (q : Opened) × (x ≡ Ok q) × (begun q ≡ o)
begun-got (Ok q) o e = (q, refl, cc)
begun-got (Err why) o e = absurd (clash (cc))

begun-refused : (x : Result Opened Fault) (why : Fault) → begun_of x ≡ Err why → x ≡ Err why
begun-refused (Ok q) why e = absurd (clash (cc))
begun-refused (Err f) why e = let same = err-is f why e in rw same

-- of a roll that is one, every shorter beginning is refused 14, at a place within it
pub check2-cut : (s : List ℕ) (n : ℕ) (o : Opened2) → check2_of s ≡ Ok o → n < length s → (p : ℕ) × (check2_of (take n s) ≡ refused_opened2 CutRoll p) × (p ≤ n)
unfolding check2_of
check2-cut s n o found less =
    let q = begun-got (judged2 s) o found in
    let reads = checked-reads2 s q.0 q.1 in
    let cut = roll-cut2 s reads.0 reads.1 n reads.2 less in
    (cut.0, ap begun_of (refused-checked2 (take n s) CutRoll cut.0 cut.1), cut.2)

-- what is refused 7 is refused 7 at the same place whatever bytes are put after it
pub check2-wrong : (s t : List ℕ) (p : ℕ) → check2_of s ≡ refused_opened2 BadRoll p → check2_of (s ++ t) ≡ refused_opened2 BadRoll p
unfolding check2_of
check2-wrong s t p found =
    let reads = checked-refused2 s (fault BadRoll p) (begun-refused (judged2 s) (fault BadRoll p) found) in
    ap begun_of (refused-checked2 (s ++ t) BadRoll p (roll-stays2 s t BadRoll p (λ e. clash (cc)) reads))

-- what is a roll begins no other
pub check2-begins-no-other : (s t : List ℕ) (o q : Opened2) → check2_of s ≡ Ok o → check2_of (s ++ t) ≡ Ok q → t ≡ []
unfolding check2_of
check2-begins-no-other s t o q one two =
    let x = begun-got (judged2 s) o one in
    let y = begun-got (judged2 (s ++ t)) q two in
    let a = checked-reads2 s x.0 x.1 in
    let b = checked-reads2 (s ++ t) y.0 y.1 in
    begins-no-other2 s t a.0 b.0 a.1 b.1 a.2 b.2

-- the same of the header: cut before its end it is 14, and wrong stays wrong
pub open2-cut : (s : List ℕ) (n : ℕ) (o : Opened2) → open2_of s ≡ Ok o → n < o.cursor.cursor.place → (p : ℕ) × (open2_of (take n s) ≡ refused_opened2 CutRoll p) × (p ≤ n)
unfolding open2_of
open2-cut s n o found less = by (header_at2 s) refl found
  where
    by : (x : Reading Header) → header_at2 s ≡ x → begun_of (held_header x) ≡ Ok o → (p : ℕ) × (begun_of (held_header (header_at2 (take n s))) ≡ refused_opened2 CutRoll p) × (p ≤ n)
    by (got h next) is found =
        let same : begun (opened-of h next) ≡ o = cc in
        let place : next ≡ o.cursor.cursor.place = ap (λ (o : Opened2). o.cursor.cursor.place) same in
        let cut = header-cut2 s h next n is (omega arith) in
        (cut.0, ap (λ (x : Reading Header). begun_of (held_header x)) cut.1, cut.2)
    by (refused r p) is found = absurd (clash (cc))

pub open2-wrong : (s t : List ℕ) (p : ℕ) → open2_of s ≡ refused_opened2 BadRoll p → open2_of (s ++ t) ≡ refused_opened2 BadRoll p
unfolding open2_of
open2-wrong s t p found = by (header_at2 s) refl found
  where
    by : (x : Reading Header) → header_at2 s ≡ x → begun_of (held_header x) ≡ refused_opened2 BadRoll p → begun_of (held_header (header_at2 (s ++ t))) ≡ refused_opened2 BadRoll p
    by (got h next) is found = absurd (clash (cc))
    by (refused r o) is found =
        let both = err-both found in
        ap (λ (x : Reading Header). begun_of (held_header x)) (header-stays2 s t BadRoll p (λ e. clash (cc)) (rw (both.0, both.1) at is))
