-- 02, Q-5: cut or wrong? What may be concluded from refusal 14 and from 7, of the header (`open`) and of the whole roll (`check`), over the kind.
-- A roll that reads, cut anywhere, is refused 14; what is refused 7 stays refused 7 at its place, whatever follows; and no roll begins another.
use Prim.Native.Nat.{ℕ, zero, suc, zero-le, ◌≤◌, ◌<◌}
use mathlib.Core.Path.{◌≡◌, refl, sym, ap, ◌∙◌}
use mathlib.Core.Bool.{Bool, true, false, cond}
use mathlib.Core.List.{List, [], ◌∷◌, ◌++◌, append_assoc}
use mathlib.Core.Logic.{◌⊎◌, inl, inr}
use native.Mathlib.Omega.{arith}
use borrow.Author.Tests.{ne_eqb, eqb-true}
use lib.Dec.{eqb}
use lib.ListN.{length, take, drop, length-take, length-append, take-append-drop}
use lib.Seq.{length-take-le, take_at, drop_at}
use Rattle.laws.proofs.Cases.{clash}
use Rattle.laws.specs.Total.{total}
use Rattle.kind.specs.declared.Kind.{Kind}
use Rattle.term.specs.Terms.{Term}
use Rattle.number.proofs.Reading.{read_stays}
use Rattle.roll.specs.Reading.{Reading, got, refused, and_then, before, term_at, terms_at, Header, header_at, Roll, roll_at}
use Rattle.roll.specs.Header.{refused_opened, held_header, open_of, judged, checked, check_of}
use Rattle.roll.proofs.Checked.{checked-reads, checked_refused, opened-of}
use Rattle.std.specs.Prelude.{Ok}
use Rattle.kind.proofs.Faults.{err-both, cut-or-not}
use Rattle.roll.specs.declared.header.Opened.{Opened}
use Rattle.roll.specs.Field.{fault}
use Rattle.roll.proofs.Filling.{and_then-is}
use Rattle.roll.proofs.Inside.{term-inside}
use Rattle.roll.proofs.Mending.{Alike, leads-inside, Kept, Broken, Cut, Long, made_got}
use Rattle.roll.proofs.Places.{term-kept, header-kept, header-broken, roll-end, place_inside}
use Rattle.kind.specs.declared.refusals.Refusal.{Refusal}
use Rattle.kind.specs.declared.refusals.Refusal.TheVariants.{BadRoll, CutRoll}

-- ---- bytes after bytes

module _ (s t : List ℕ) (p : ℕ) (inside : p ≤ length s) where
  parted : s ++ t ≡ take p s ++ (drop p s ++ t)
  parted = ap (λ (l : List ℕ). l ++ t) (sym (take-append-drop p s)) ∙ append_assoc (take p s) (drop p s) t

  pub begins-alike : Alike p s (s ++ t)
  begins-alike = ap (take p) parted ∙ take_at (take p s) (drop p s ++ t) p (length-take-le p s inside)

  drop_more : drop p (s ++ t) ≡ drop p s ++ t
  drop_more = ap (drop p) parted ∙ drop_at (take p s) (drop p s ++ t) p (length-take-le p s inside)

-- ---- wrong stays wrong

-- what is refused for another reason than its end has a number there, which stays whatever follows
pub broken-stays : {A : Type 0} (X : List ℕ → Reading A) (s t : List ℕ) (r : Refusal) (p : ℕ) → (r ≡ CutRoll → ⊥) → Broken X s 0 r p → X (s ++ t) ≡ refused r p
broken-stays X s t r p other b =
    let inside : p ≤ length s = leads-inside zero-le b.leads in
    let is : X s ≡ refused r p = b.same s refl refl in
    b.same (s ++ t) (begins-alike s t p inside)
    (read_stays s t p (drop_more s t p inside) (λ ended. other (let m = b.missing s refl ended in cc)))

pub ends_stay : {A : Type 0} (X : List ℕ → Reading A) (s t : List ℕ) (r : Refusal) (p : ℕ) → (r ≡ CutRoll → ⊥) → X s ≡ refused r p → Cut X s 0 r p ⊎ Long X s 0 r p → X (s ++ t) ≡ refused r p
ends_stay X s t r p other is (inl b) =
    let inside : p ≤ length s = leads-inside zero-le b.leads in
    b.same (s ++ t) (begins-alike s t p inside)
    (read_stays s t p (drop_more s t p inside) (λ ended. other (let m = b.missing s refl ended in cc)))
ends_stay X s t r p other is (inr b) =
    let inside : p ≤ length s = leads-inside zero-le b.leads in
    let follow = b.follow in
    b.more (s ++ t) (begins-alike s t p inside) (λ end. follow (omega (arith, inside, length-append s t)))

header-stays : (s t : List ℕ) (r : Refusal) (p : ℕ) → (r ≡ CutRoll → ⊥) → header_at s ≡ refused r p → header_at (s ++ t) ≡ refused r p
header-stays s t r p other e = broken-stays header_at s t r p other (header-broken s r p e)

roll-stays : (s t : List ℕ) (r : Refusal) (p : ℕ) → (r ≡ CutRoll → ⊥) → roll_at s ≡ refused r p → roll_at (s ++ t) ≡ refused r p
roll-stays s t r p other e = ends_stay roll_at s t r p other e (roll-end s r p e)

-- ---- a roll begins no other

terms-longer : (left : ℕ) (k : Kind) (l : ℕ) (s t : List ℕ) (at : ℕ) (us : List Term) (end : ℕ) → 0 < length t → terms_at s at left k l ≡ got us end → terms_at (s ++ t) at left k l ≡ refused BadRoll (length s)
unfolding terms_at
terms-longer zero k l s t at us end some e = by (eqb at (length s)) refl e
  where
    by : (b : Bool) → eqb at (length s) ≡ b → cond {A = Reading (List Term)} b (got [] at) (refused BadRoll at) ≡ got us end → cond {A = Reading (List Term)} (eqb at (length (s ++ t))) (got [] at) (refused BadRoll at) ≡ refused BadRoll (length s)
    by true is e =
        let here : at ≡ length s = eqb-true at (length s) is in
        rw (ne_eqb at (length (s ++ t)) (λ same. omega (arith, here, same, some, length-append s t))) (ap (refused BadRoll) here)
    by false is e = absurd (clash (cc))
terms-longer (suc left) k l s t at us end some e =
    let x = and_then-is (term_at s at k l) (λ u next. before (u ∷ []) (terms_at s next left k l)) us end e in
    let u = x.0 in
    let next = x.1 in
    let kept = term-kept k l s at u next x.2 in
    let m = made_got (λ vs. (u ∷ []) ++ vs) (terms_at s next left k l) us end x.3 in
    let again : term_at (s ++ t) at k l ≡ got u next = kept.same (s ++ t) (begins-alike s t next (term-inside k l s at u next x.2)) ∙ x.2 in
    ap (λ (y : Reading Term). and_then y (λ u next. before (u ∷ []) (terms_at (s ++ t) next left k l))) again
    ∙ ap (before (u ∷ [])) (terms-longer left k l s t next m.0 end some m.1)

roll-longer : (s t : List ℕ) (r : Roll) (end : ℕ) → 0 < length t → roll_at s ≡ got r end → roll_at (s ++ t) ≡ refused BadRoll (length s)
unfolding roll_at
roll-longer s t r end some e =
    let x = and_then-is (header_at s) (terms s) r end e in
    let h = x.0 in
    let next = x.1 in
    let kept = header-kept s h next x.2 in
    let y = and_then-is (terms_at s next h.terms h.kind (total h.orders)) (made h) r end x.3 in
    let again : header_at (s ++ t) ≡ got h next = kept.same (s ++ t) (begins-alike s t next (leads-inside zero-le kept.leads)) ∙ x.2 in
    ap (λ (z : Reading Header). and_then z (terms (s ++ t))) again
    ∙ ap (λ (z : Reading (List Term)). and_then z (made h)) (terms-longer h.terms h.kind (total h.orders) s t next y.0 y.1 some y.2)
  where
    made : Header → List Term → ℕ → Reading Roll
    made h ts end = got (record { kind = h.kind; orders = h.orders; terms = ts }) end

    terms : List ℕ → Header → ℕ → Reading Roll
    terms t h next = and_then (terms_at t next h.terms h.kind (total h.orders)) (λ ts end. got (record { kind = h.kind; orders = h.orders; terms = ts }) end)

-- ---- what a technician may conclude

-- 3: a roll is never a beginning of another roll that reads; the first byte too many is refused 7
pub begins-no-other : (s t : List ℕ) (r q : Roll) (end last : ℕ) → roll_at s ≡ got r end → roll_at (s ++ t) ≡ got q last → t ≡ []
begins-no-other s [] r q end last e f = refl
begins-no-other s (b ∷ t) r q end last e f = let wrong = roll-longer s (b ∷ t) r end (omega arith) e in absurd (clash (cc))

-- refused 14 at a place that is at most so far
abbrev pub Ends : ℕ → {A : Type 0} → Reading A → Type 0
Ends n x = (p : ℕ) × (x ≡ refused CutRoll p) × (p ≤ n)

-- what reads, reads no beginning of it, and is not refused for good there, is cut
pub cut-ends : {A : Type 0} (X : List ℕ → Reading A) (s : List ℕ) (a : A) (end n : ℕ) → X s ≡ got a end
    → ((b : A) (last : ℕ) → X (take n s) ≡ got b last → ⊥)
    → ((r : Refusal) (p : ℕ) → (r ≡ CutRoll → ⊥) → X (take n s) ≡ refused r p → X (take n s ++ drop n s) ≡ refused r p)
    → ((r : Refusal) (p : ℕ) → X (take n s) ≡ refused r p → p ≤ length (take n s))
    → Ends n (X (take n s))
cut-ends {A = A} X s a end n e no-got stays inside = by (X (take n s)) refl
  where
    by : (x : Reading A) → X (take n s) ≡ x → Ends n (X (take n s))
    by (got q last) is = absurd (no-got q last is)
    by (refused q p) is = choose (cut-or-not q)
      where
        choose : (q ≡ CutRoll) ⊎ (q ≡ CutRoll → ⊥) → Ends n (X (take n s))
        choose (inl same) = (p, rw same at is, omega (arith, inside q p is, length-take n s))
        choose (inr other) = let wrong = rw (take-append-drop n s) at (stays q p other is) in absurd (clash (cc))

pub begins-shorter : (s : List ℕ) (n : ℕ) → n < length s → drop n s ≡ [] → ⊥
begins-shorter s n less nothing = omega (arith, less, ap length (take-append-drop n s), length-append (take n s) (drop n s), ap length nothing, length-take n s)

-- 1: cut is always 14
pub roll-cut : (s : List ℕ) (r : Roll) (end n : ℕ) → roll_at s ≡ got r end → n < length s → Ends n (roll_at (take n s))
roll-cut s r end n e less =
    cut-ends roll_at s r end n e
    (λ q last is. begins-shorter s n less (begins-no-other (take n s) (drop n s) q r last end is (rw (take-append-drop n s) e)))
    (λ q p other is. roll-stays (take n s) (drop n s) q p other is)
    (λ q p is. place_inside (take n s) q p is)

-- a reading that is settled by its bytes does not end in a shorter beginning
pub kept-ends : {A : Type 0} (X : List ℕ → Reading A) (s : List ℕ) (a : A) (next n : ℕ) → X s ≡ got a next → n < next → (b : A) (m : ℕ) → X (take n s) ≡ got b m → Kept X (take n s) 0 m → ⊥
kept-ends X s a next n e less b m is kept =
    let inside : m ≤ length (take n s) = leads-inside zero-le kept.leads in
    let again : X s ≡ got b m = rw (take-append-drop n s) at (kept.same (take n s ++ drop n s) (begins-alike (take n s) (drop n s) m inside) ∙ is) in
    let same : m ≡ next = cc in
    omega (arith, less, inside, same, length-take n s)

header-cut : (s : List ℕ) (h : Header) (next n : ℕ) → header_at s ≡ got h next → n < next → Ends n (header_at (take n s))
header-cut s h next n e less =
    cut-ends header_at s h next n e
    (λ g m is. kept-ends header_at s h next n e less g m is (header-kept (take n s) g m is))
    (λ q p other is. header-stays (take n s) (drop n s) q p other is)
    (λ q p is. leads-inside {at = 0} zero-le (header-broken (take n s) q p is).leads)

-- ---- as `open` and `check` tell it

-- what does not read `check` refuses, and where
refused-checked : (s : List ℕ) (r : Refusal) (p : ℕ) → roll_at s ≡ refused r p → check_of s ≡ refused_opened r p
unfolding roll_at check_of
refused-checked s r p e = by-header (header_at s) refl e
  where
    made : Header → List Term → ℕ → Reading Roll
    made h ts end = got (record { kind = h.kind; orders = h.orders; terms = ts }) end

    by-terms : (h : Header) (next : ℕ) (x : Reading (List Term)) → and_then x (made h) ≡ refused r p → judged (held_header (got h next)) x ≡ refused_opened r p
    by-terms h next (got ts end) e = absurd (clash (cc))
    by-terms h next (refused q o) e = let number : q ≡ r = cc in let there : o ≡ p = cc in rw (number, there) refl

    by-header : (x : Reading Header) → header_at s ≡ x → and_then x (λ h next. and_then (terms_at s next h.terms h.kind (total h.orders)) (made h)) ≡ refused r p → checked s x ≡ refused_opened r p
    by-header (got h next) is e = by-terms h next (terms_at s next h.terms h.kind (total h.orders)) e
    by-header (refused q o) is e = let number : q ≡ r = cc in let there : o ≡ p = cc in rw (number, there) refl

-- 1: of a roll that is one, every shorter beginning is refused 14, at a place within it
pub check-cut : (s : List ℕ) (n : ℕ) (o : Opened) → check_of s ≡ Ok o → n < length s → (p : ℕ) × (check_of (take n s) ≡ refused_opened CutRoll p) × (p ≤ n)
check-cut s n o found less =
    let reads = checked-reads s o found in
    let cut = roll-cut s reads.0 reads.1 n reads.2 less in
    (cut.0, refused-checked (take n s) CutRoll cut.0 cut.1, cut.2)

-- 2: what is refused 7 is refused 7 at the same place whatever bytes are put after it
pub check-wrong : (s t : List ℕ) (p : ℕ) → check_of s ≡ refused_opened BadRoll p → check_of (s ++ t) ≡ refused_opened BadRoll p
check-wrong s t p found = refused-checked (s ++ t) BadRoll p (roll-stays s t BadRoll p (λ e. clash (cc)) (checked_refused s (check_of s) (fault BadRoll p) refl found))

-- 3: what is a roll begins no other
pub check-begins-no-other : (s t : List ℕ) (o q : Opened) → check_of s ≡ Ok o → check_of (s ++ t) ≡ Ok q → t ≡ []
check-begins-no-other s t o q one two =
    let a = checked-reads s o one in
    let b = checked-reads (s ++ t) q two in
    begins-no-other s t a.0 b.0 a.1 b.1 a.2 b.2

-- the same of the header: cut before its end it is 14, and wrong stays wrong
pub open-cut : (s : List ℕ) (n : ℕ) (o : Opened) → open_of s ≡ Ok o → n < o.cursor.place → (p : ℕ) × (open_of (take n s) ≡ refused_opened CutRoll p) × (p ≤ n)
unfolding open_of
open-cut s n o found less = by (header_at s) refl found
  where
    by : (x : Reading Header) → header_at s ≡ x → held_header x ≡ Ok o → (p : ℕ) × (held_header (header_at (take n s)) ≡ refused_opened CutRoll p) × (p ≤ n)
    by (got h next) is found =
        let same : opened-of h next ≡ o = cc in
        let inside : n < next = rw (← same) at less in
        let cut = header-cut s h next n is inside in (cut.0, ap held_header cut.1, cut.2)
    by (refused r p) is found = absurd (clash (cc))

pub open-wrong : (s t : List ℕ) (p : ℕ) → open_of s ≡ refused_opened BadRoll p → open_of (s ++ t) ≡ refused_opened BadRoll p
unfolding open_of
open-wrong s t p found = by (header_at s) refl found
  where
    by : (x : Reading Header) → header_at s ≡ x → held_header x ≡ refused_opened BadRoll p → held_header (header_at (s ++ t)) ≡ refused_opened BadRoll p
    by (got h next) is found = absurd (clash (cc))
    by (refused r o) is found = let both = err-both found in ap held_header (header-stays s t BadRoll p (λ e. clash (cc)) (rw (both.0, both.1) at is))
