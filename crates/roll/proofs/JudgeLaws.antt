-- The functions of src/judge.rt: a whole roll judged, its header, then its terms gone over.
use Prim.Native.Nat.{ℕ, zero, suc, ◌-◌, ◌≤◌, ◌<◌}
use mathlib.Core.Path.{◌≡◌, refl, sym, ap, ◌∙◌}
use mathlib.Core.Bool.{Bool, true, false, cond}
use mathlib.Core.List.{List, [], ◌∷◌, ◌++◌}
use native.Mathlib.Omega.{arith}
use native.Mathlib.Nat.{not-suc-le-zero}
use borrow.Author.Tests.{le-ltb}
use lib.Dec.{eqb}
use lib.ListN.{length, replicate}
use Rattle.kind.specs.Limits.{request_orders}
use Rattle.kind.specs.Kinds.{kind_of, most_l}
use Rattle.kind.specs.declared.Kind.{Kind}
use Rattle.kind.proofs.KindNumber.{kind-number}
use Rattle.laws.proofs.Cases.{clash}
use Rattle.term.specs.Terms.{Term}
use Rattle.roll.specs.declared.cursor.Cursor.{Cursor}
use Rattle.roll.specs.declared.header.Opened.{Opened}
use Rattle.roll.specs.Reading.{Reading, got, refused, and_then, before, term_at, terms_at, Header, header_at}
use Rattle.roll.specs.Cursor.{step_with, step_as, step_of}
use Rattle.roll.specs.Header.{cursor_at, held_header, open_of, judged, checked, check_of}
use Rattle.roll.specs.inner.Judged.{Honest}
use Rattle.roll.specs.inner.Over.{over_of}
use Rattle.roll.proofs.Filling.{before-is, and_then-is}
use Rattle.roll.proofs.Inside.{header_read, header-inside, orders-most}
use Rattle.std.specs.Prelude.{⊤, Option, Some, None, Result, Ok, Err}
use Rattle.kind.specs.declared.refusals.Fault.{Fault}
use Rattle.kind.proofs.Faults.{err-is}
use Rattle.roll.specs.Field.{fault}
use Rattle.kind.specs.declared.refusals.Refusal.TheVariants.{BadRoll}

-- ---- one term of many

pub terms-turn : (left : ℕ) (k : Kind) (l : ℕ) (s : List ℕ) (at : ℕ) (x : Reading Term) → 0 < left → term_at s at k l ≡ x → terms_at s at left k l ≡ and_then x (λ t next. before (t ∷ []) (terms_at s next (left - 1) k l))
unfolding terms_at
terms-turn zero k l s at x some e = absurd (not-suc-le-zero some)
terms-turn (suc left) k l s at x some e = let less : suc left - 1 ≡ left = omega arith in rw (less, e)

pub terms-none : (left : ℕ) (k : Kind) (l : ℕ) (s : List ℕ) (at : ℕ) → left ≡ 0 → terms_at s at left k l ≡ cond (eqb at (length s)) (got [] at) (refused BadRoll at)
unfolding terms_at
terms-none left k l s at e = rw e

pub none_left : (at : ℕ) (ts : List Term) (end : ℕ) (b : Bool) → cond b (got [] at) (refused BadRoll at) ≡ got ts end → ts ≡ []
none_left at ts end true e = cc
none_left at ts end false e = absurd (clash (cc))

-- as many terms as were asked for
pub terms-count : (left : ℕ) (k : Kind) (l : ℕ) (s : List ℕ) (at : ℕ) (ts : List Term) (end : ℕ) → terms_at s at left k l ≡ got ts end → length ts ≡ left
unfolding terms_at
terms-count zero k l s at ts end e = rw (none_left at ts end (eqb at (length s)) e)
terms-count (suc left) k l s at ts end e =
    let x = and_then-is (term_at s at k l) (λ t next. before (t ∷ []) (terms_at s next left k l)) ts end e in
    let b = before-is x.0 (terms_at s x.1 left k l) ts end x.3 in
    rw b.2 (ap suc (terms-count left k l s x.1 b.0 end b.1))

-- ---- an honest cursor

pub honest-step : (c : Cursor) (s : List ℕ) (h : Honest c s) → step_of c s ≡ step_with h.kind c s
unfolding step_of
honest-step c s h =
    ap (λ (n : Option Kind). step_as n c s) h.is
    ∙ simp (le-ltb (most_l h.kind) c.l h.small, le-ltb (length s) c.place h.inside)

-- ---- from the header on

abbrev opened-of : Header → ℕ → Opened
opened-of h next = record { cursor = cursor_at h next; orders = h.orders ++ replicate (request_orders - length h.orders) 0 }

-- the header's cursor is honest
header-honest : (s : List ℕ) (x : Reading Header) (o : Opened) → header_at s ≡ x → held_header x ≡ Ok o → Honest o.cursor s
header-honest s (got h next) o e ok =
    let r = header_read s h next e in
    let same : opened-of h next ≡ o = cc in
    rw (← same) (record { kind = h.kind; is = kind-number h.kind; small = orders-most h.kind s r.a h.orders r.b r.orders; inside = header-inside s h next r })
header-honest s (refused r place) o e ok = absurd (clash (cc))

pub open-honest : (s : List ℕ) (y : Result Opened Fault) (o : Opened) → y ≡ open_of s → y ≡ Ok o → Honest o.cursor s
unfolding open_of
open-honest s y o is ok = header-honest s (header_at s) o refl (sym is ∙ ok)

-- an honest cursor's L is within its kind's
honest-small : (c : Cursor) (s : List ℕ) (n : Option Kind) (k : Kind) → Honest c s → n ≡ kind_of c.kind → n ≡ Some k → c.l ≤ most_l k
honest-small c s n k h is e = let same : h.kind ≡ k = one h.kind k (sym h.is ∙ sym is ∙ e) in rw same at h.small
  where
    one : (a b : Kind) → Some a ≡ Some b → a ≡ b
    one a b e = cc

pub judge-small : (s : List ℕ) (y : Result Opened Fault) (o : Opened) (n : Option Kind) (k : Kind) → y ≡ open_of s → y ≡ Ok o → n ≡ kind_of o.cursor.kind → n ≡ Some k → o.cursor.l ≤ most_l k
judge-small s y o n k is ok kind e = honest-small o.cursor s n k (open-honest s y o is ok) kind e

-- what a header that reads is judged by
header-judged : (s : List ℕ) (x : Reading Header) (o : Opened) (n : Option Kind) (k : Kind) → held_header x ≡ Ok o → n ≡ kind_of o.cursor.kind → n ≡ Some k → checked s x ≡ judged (Ok o) (terms_at s o.cursor.place o.cursor.left k o.cursor.l)
header-judged s (got h next) o n k ok is e =
    let same : opened-of h next ≡ o = cc in
    let kind : Some h.kind ≡ Some k = sym (kind-number h.kind) ∙ ap (λ (o : Opened). kind_of o.cursor.kind) same ∙ sym is ∙ e in
    let same-kind : h.kind ≡ k = one h.kind k kind in
    rw (← same, ← same-kind)
  where
    one : (a b : Kind) → Some a ≡ Some b → a ≡ b
    one a b e = cc
header-judged s (refused r place) o n k ok is e = absurd (clash (cc))

pub check-read : (s : List ℕ) (y : Result Opened Fault) (o : Opened) (n : Option Kind) (k : Kind) (x : Result ⊤ Fault) (u : ⊤) → y ≡ open_of s → y ≡ Ok o → n ≡ kind_of o.cursor.kind → n ≡ Some k → x ≡ over_of (terms_at s o.cursor.place o.cursor.left k o.cursor.l) → x ≡ Ok u → Ok o ≡ check_of s
unfolding open_of check_of
check-read s y o n k x u is ok kind e went all = by (terms_at s o.cursor.place o.cursor.left k o.cursor.l) (sym went ∙ all) ∙ sym (header-judged s (header_at s) o n k (sym is ∙ ok) kind e)
  where
    by : (z : Reading (List Term)) → over_of z ≡ Ok u → Ok o ≡ judged (Ok o) z
    by (got ts end) f = refl
    by (refused r place) f = absurd (clash (cc))

pub check-stopped : (s : List ℕ) (y : Result Opened Fault) (o : Opened) (n : Option Kind) (k : Kind) (x : Result ⊤ Fault) (why : Fault) → y ≡ open_of s → y ≡ Ok o → n ≡ kind_of o.cursor.kind → n ≡ Some k → x ≡ over_of (terms_at s o.cursor.place o.cursor.left k o.cursor.l) → x ≡ Err why → Err why ≡ check_of s
unfolding open_of check_of
check-stopped s y o n k x why is ok kind e went all = by (terms_at s o.cursor.place o.cursor.left k o.cursor.l) (sym went ∙ all) ∙ sym (header-judged s (header_at s) o n k (sym is ∙ ok) kind e)
  where
    by : (z : Reading (List Term)) → over_of z ≡ Err why → Err why ≡ judged (Ok o) z
    by (got ts end) f = absurd (clash (cc))
    by (refused r place) f = let same = err-is (fault r place) why f in rw same

-- the header's own kind has a name
pub check-known : {P : Type 0} (s : List ℕ) (y : Result Opened Fault) (o : Opened) (n : Option Kind) → y ≡ open_of s → y ≡ Ok o → n ≡ kind_of o.cursor.kind → n ≡ None → P
check-known s y o n is ok kind none = let h = open-honest s y o is ok in let known = h.is in absurd (clash (cc))

pub check-refused : (s : List ℕ) (y : Result Opened Fault) (why : Fault) → y ≡ open_of s → y ≡ Err why → Err why ≡ check_of s
unfolding open_of check_of
check-refused s y why is err = by (header_at s) (sym is ∙ err)
  where
    by : (x : Reading Header) → held_header x ≡ Err why → Err why ≡ checked s x
    by (got h next) e = absurd (clash (cc))
    by (refused r place) e = sym e
