-- The move from form 1 to form 2: a judged roll, read again, is written as its form 2; what src/shorter.rt knows of it.
use Prim.Native.Nat.{ℕ, zero, suc, ◌+◌, ◌-◌, ◌≤◌, ◌<◌}
use mathlib.Core.Path.{◌≡◌, refl, sym, ap, ap₂, ◌∙◌}
use mathlib.Core.Bool.{Bool, true, false}
use mathlib.Core.List.{List, [], ◌∷◌, ◌++◌, append_assoc}
use native.Mathlib.Omega.{arith}
use borrow.Author.Tests.{leb-true, le-leb}
use borrow.Rule.Slice.PartMut.{put_mid}
use lib.Dec.{eqb, leb}
use lib.ListN.{length, take, drop, length-append}
use Rattle.kind.specs.Limits.{most_l·any, most_terms}
use Rattle.kind.specs.Kinds.{number_of, table_of, most_l}
use Rattle.kind.specs.declared.Kind.{Kind}
use Rattle.kind.specs.declared.Kind.TheVariants.{Coulomb}
use Rattle.kind.proofs.Within.{number-within, some-entries, table-within}
use Rattle.laws.specs.Total.{total}
use Rattle.number.specs.Numbers.{bytes_of, Bytes}
use Rattle.number.proofs.Writing.{bytes-last}
use Rattle.term.specs.Terms.{Term}
use Rattle.roll.specs.declared.cursor.Cursor.{Cursor}
use Rattle.roll.specs.declared.header.Opened.{Opened}
use Rattle.roll.specs.Bytes.{numbers_bytes}
use Rattle.roll.specs.Fits.{Below}
use Rattle.roll.specs.Header.{cursor_at, check_of}
use Rattle.roll.specs.Reading.{Reading, got, before, term_at, terms_at, Header, Roll, roll_at}
use Rattle.roll.specs.inner.Again.{head_at, between, head_term}
use Rattle.roll.proofs.AgainLaws.{term-again, head-inside}
use Rattle.roll.proofs.Checked.{checked-judged, checked_refused, headed, opened-cursor}
use Rattle.roll.proofs.Filling.{before-is, and_then-is}
use Rattle.roll.proofs.Inside.{term-read, term-inside, header_read, header-inside, orders-most, taken-inside}
use Rattle.roll.proofs.JudgeLaws.{none_left}
use Rattle.roll.proofs.TermsLaws.{few-prefactors}
use Rattle.roll.proofs.Written.{HeadBytes, head_bytes, roll-read}
use Rattle.form2.specs.Bytes.{form_two, shared, further_of, term_bytes2, terms_bytes2, roll_bytes2}
use Rattle.form2.specs.Moves.{in_form1, in_form2, MoveTold}
use Rattle.form2.specs.inner.Puts.{Put, bytes_in, two_bytes, plain2, ps_at, head_bytes2, again_bytes2, SmallAgain, May2}
use Rattle.form2.proofs.AtMost.{roll-longer}
use Rattle.form2.proofs.Back.{below-further}
use Rattle.form2.proofs.Inside.{prefactors-below}
use Rattle.form2.proofs.JudgeLaws.{one-byte-each}
use Rattle.form2.proofs.MovesLaws.{told-refused, told-beyond, told-full, told_moved, first_one, head-copied, head-long, behind-head}
use Rattle.form2.proofs.PutsLaws.{put_both}
use Rattle.form2.proofs.ShorterLaws.{head-order, part-long}
use Rattle.std.specs.Prelude.{Result, Ok, Err}
use Rattle.kind.specs.declared.refusals.Fault.{Fault}
use Rattle.roll.specs.Field.{fault}
use Rattle.kind.specs.declared.refusals.Refusal.TheVariants.{StartBeyondEnd, NoRoom}

-- ---- a term

plain-term2 : (earlier : List ℕ) (k : Kind) (t : Term) → Below (table_of k) t.prefactors → plain2 t.scale t.boys (shared earlier t.prefactors) (further_of earlier t.prefactors) ≡ term_bytes2 earlier t
unfolding plain2 two_bytes term_bytes2
plain-term2 earlier k t below =
    let ps = t.prefactors in
    let fs = further_of earlier ps in
    let one = one-byte-each (table_of k) fs (table-within k) (below-further (table_of k) earlier ps below) in
    append_assoc (bytes_of t.scale) (bytes_of t.boys) ((bytes_of (shared earlier ps) ++ bytes_of (length fs)) ++ fs)
    ∙ ap (λ (l : List ℕ). bytes_of t.scale ++ (bytes_of t.boys ++ l))
    (append_assoc (bytes_of (shared earlier ps)) (bytes_of (length fs)) fs
    ∙ ap (λ (l : List ℕ). bytes_of (shared earlier ps) ++ (bytes_of (length fs) ++ l)) (sym one))

-- a term that reads, read again
record One (k : Kind) (s : List ℕ) (at : ℕ) (t : Term) (next : ℕ) : Type 0 where
  pub prefactors : ps_at s (head_at s at) ≡ t.prefactors
  pub bytes : (earlier : List ℕ) → head_bytes2 s earlier (head_at s at) ≡ term_bytes2 earlier t
  pub small : (head_at s at).end ≤ (head_at s at).from + most_l·any
  pub after : (head_at s at).end ≡ next

one_again : (k : Kind) (l : ℕ) (s : List ℕ) (at : ℕ) (t : Term) (next : ℕ) → Bytes s → at ≤ length s → l ≤ most_l k → term_at s at k l ≡ got t next → One k s at t next
unfolding head_term ps_at head_bytes2
one_again k l s at t next bytes inside small e =
    let a = term-again k l s at t next bytes e in
    let h = head_at s at in
    let scale : h.scale ≡ t.scale = ap (λ (t : Term). t.scale) a.term in
    let boys : h.boys ≡ t.boys = ap (λ (t : Term). t.boys) a.term in
    let ps : between s h.from h.end ≡ t.prefactors = ap (λ (t : Term). t.prefactors) a.term in
    let r = term-read k l s at t next e in
    let below = prefactors-below (length t.prefactors) (table_of k) s r.c t.prefactors next (some-entries k) r.prefactors in
    let long = part-long s h.from h.end (head-order s at inside) (head-inside s at h refl) in
    let few = r.count.below in
    record {
      prefactors = ps;
      bytes = λ earlier.
          ap₂ (λ (x y : ℕ). plain2 x y (shared earlier (between s h.from h.end)) (further_of earlier (between s h.from h.end))) scale boys
          ∙ ap (λ (qs : List ℕ). plain2 t.scale t.boys (shared earlier qs) (further_of earlier qs)) ps
          ∙ plain-term2 earlier k t below;
      small = omega (arith, ap length ps, long, few-prefactors k l small);
      after = a.after;
    }

-- ---- the terms

pub again-written : (left : ℕ) (k : Kind) (l : ℕ) (earlier s : List ℕ) (at : ℕ) (ts : List Term) (end : ℕ) → Bytes s → at ≤ length s → l ≤ most_l k → terms_at s at left k l ≡ got ts end → again_bytes2 s earlier at left ≡ terms_bytes2 earlier ts
unfolding terms_at again_bytes2 terms_bytes2
again-written zero k l earlier s at ts end bytes inside small e = rw (none_left at ts end (eqb at (length s)) e)
again-written (suc left) k l earlier s at ts end bytes inside small e =
    let x = and_then-is (term_at s at k l) (λ t next. before (t ∷ []) (terms_at s next left k l)) ts end e in
    let t = x.0 in
    let next = x.1 in
    let b = before-is t (terms_at s next left k l) ts end x.3 in
    let o = one_again k l s at t next bytes inside small x.2 in
    let rest = again-written left k l t.prefactors s next b.0 end bytes (term-inside k l s at t next x.2) small b.1 in
    rw b.2
    (ap₂ ◌++◌ (o.bytes earlier)
    (ap₂ (λ (ps : List ℕ) (n : ℕ). again_bytes2 s ps n left) o.prefactors o.after ∙ rest))

again-small : (left : ℕ) (k : Kind) (l : ℕ) (s : List ℕ) (at : ℕ) (ts : List Term) (end : ℕ) → Bytes s → at ≤ length s → l ≤ most_l k → terms_at s at left k l ≡ got ts end → SmallAgain s at left
unfolding terms_at
again-small zero k l s at ts end bytes inside small e = tt
again-small (suc left) k l s at ts end bytes inside small e =
    let x = and_then-is (term_at s at k l) (λ t next. before (t ∷ []) (terms_at s next left k l)) ts end e in
    let b = before-is x.0 (terms_at s x.1 left k l) ts end x.3 in
    let o = one_again k l s at x.0 x.1 bytes inside small x.2 in
    let rest = again-small left k l s x.1 b.0 end bytes (term-inside k l s at x.0 x.1 x.2) small b.1 in
    (o.small, rw o.after rest)

-- ---- the roll

head-and2 : (k : ℕ) (os : List ℕ) (ts : List Term) (n : ℕ) (head : List ℕ) → form_two + k < 128 → length ts ≡ n → head ≡ numbers_bytes os ++ bytes_of n → bytes_of (form_two + k) ++ (numbers_bytes os ++ (bytes_of (length ts) ++ terms_bytes2 [] ts)) ≡ ((k + form_two) ∷ head) ++ terms_bytes2 [] ts
head-and2 k os ts n head small count is =
    let sum : form_two + k ≡ k + form_two = omega arith in
    ap (λ (l : List ℕ). l ++ (numbers_bytes os ++ (bytes_of (length ts) ++ terms_bytes2 [] ts))) (bytes-last (form_two + k) small)
    ∙ ap (λ (x : ℕ). x ∷ (numbers_bytes os ++ (bytes_of (length ts) ++ terms_bytes2 [] ts))) sum
    ∙ ap (λ (l : List ℕ). (k + form_two) ∷ l) (sym (append_assoc (numbers_bytes os) (bytes_of (length ts)) (terms_bytes2 [] ts))
    ∙ ap (λ (m : ℕ). (numbers_bytes os ++ bytes_of m) ++ terms_bytes2 [] ts) count
    ∙ ap (λ (l : List ℕ). l ++ terms_bytes2 [] ts) (sym is))

roll-most : (s : List ℕ) (r : Roll) (end : ℕ) → Bytes s → roll_at s ≡ got r end → length (in_form2 r) ≤ length s + length r.terms
unfolding in_form1
roll-most s r end bytes reads = omega (arith, roll-longer r, ap length (roll-read s r end bytes reads).0)

made-may2 : (s : List ℕ) (o : Opened) (h : Header) (next : ℕ) (r : Roll) (end last : ℕ) → Bytes s → h.kind ≡ r.kind → h.orders ≡ r.orders → h.terms ≡ length r.terms → o.cursor ≡ cursor_at h next → roll_at s ≡ got r end → 1 ≤ next → next ≤ length s → total h.orders ≤ most_l h.kind → terms_at s next h.terms h.kind (total h.orders) ≡ got r.terms last → between s 1 next ≡ numbers_bytes h.orders ++ bytes_of h.terms → May2 o s
unfolding in_form2 roll_bytes2
made-may2 s o h next r end last bytes kind-is orders-is count cursor reads some inside small terms copied =
    let place : o.cursor.place ≡ next = ap (λ (c : Cursor). c.place) cursor in
    let left : o.cursor.left ≡ h.terms = ap (λ (c : Cursor). c.left) cursor in
    let kind : o.cursor.kind ≡ number_of h.kind = ap (λ (c : Cursor). c.kind) cursor in
    let l = total h.orders in
    let within = number-within h.kind in
    let written : again_bytes2 s [] next h.terms ≡ terms_bytes2 [] r.terms = again-written h.terms h.kind l [] s next r.terms last bytes inside small terms in
    record {
      roll = r;
      end = end;
      reads = reads;
      some = rw place some;
      inside = rw place inside;
      kind = rw kind within;
      again = rw (place, left) (record { inside = inside; small = again-small h.terms h.kind l s next r.terms last bytes inside small terms });
      count = left ∙ count;
      most = rw (left ∙ count) (roll-most s r end bytes reads);
      bytes =
          rw (← kind-is, ← orders-is, kind, place, left)
          (head-and2 (number_of h.kind) h.orders r.terms h.terms (between s 1 next) (omega arith) (sym count) copied
          ∙ ap (λ (l : List ℕ). ((number_of h.kind + form_two) ∷ between s 1 next) ++ l) (sym written));
    }

-- what the check says of a roll that reads
pub judged-may2 : (s : List ℕ) (x : Result Opened Fault) (o : Opened) → Bytes s → x ≡ check_of s → x ≡ Ok o → May2 o s
judged-may2 s x o bytes is ok =
    let j = checked-judged s x o is ok in
    let d = headed o s j in
    let h = d.header in
    let next = d.next in
    let hr = header_read s h next d.is in
    let within = number-within h.kind in
    let one : hr.a ≡ 1 = first_one s 0 (number_of Coulomb) (number_of h.kind) hr.a bytes (omega arith) hr.kind in
    let hb : HeadBytes s 1 h next = rw one at (head_bytes s hr.a hr.b h next bytes hr.orders hr.terms) in
    let some : 1 ≤ next = omega (arith, (taken-inside s hr.b 1 most_terms h.terms next hr.terms).0) in
    let inside = header-inside s h next hr in
    made-may2 s o h next j.roll j.end d.end bytes d.kind d.orders d.count (opened-cursor o s j.roll d) j.reads some inside (orders-most h.kind s hr.a h.orders hr.b hr.orders) d.reads (head-copied s h next some inside hb)

module _ (o : Opened) (s : List ℕ) (may : May2 o s) where
  bytes-are2 : bytes_in in_form2 (roll_at s) ≡ ((o.cursor.kind + form_two) ∷ between s 1 o.cursor.place) ++ again_bytes2 s [] o.cursor.place o.cursor.left
  bytes-are2 = ap (bytes_in in_form2) may.reads ∙ may.bytes

  head-long2 : length ((o.cursor.kind + form_two) ∷ between s 1 o.cursor.place) ≡ o.cursor.place
  head-long2 = head-long s (o.cursor.kind + form_two) o.cursor.place may.some may.inside

  pub head-fits2 : (out : List ℕ) → length (bytes_in in_form2 (roll_at s)) ≤ length out → o.cursor.place ≤ length out
  head-fits2 out room = omega (arith, ap length bytes-are2, length-append ((o.cursor.kind + form_two) ∷ between s 1 o.cursor.place) (again_bytes2 s [] o.cursor.place o.cursor.left), head-long2)

  pub terms-fit2 : (out : List ℕ) (to : ℕ) (mid : List ℕ) → length (bytes_in in_form2 (roll_at s)) ≤ length out → Put ((o.cursor.kind + form_two) ∷ between s 1 o.cursor.place) 0 out to mid → to + length (again_bytes2 s [] o.cursor.place o.cursor.left) ≤ length mid
  terms-fit2 out to mid room p = behind-head (o.cursor.kind + form_two) s o.cursor.place (again_bytes2 s [] o.cursor.place o.cursor.left) out (bytes_in in_form2 (roll_at s)) bytes-are2 room to mid p

  pub roll-put2 : (out : List ℕ) (to : ℕ) (mid : List ℕ) (r : ℕ) (after : List ℕ) → Put ((o.cursor.kind + form_two) ∷ between s 1 o.cursor.place) 0 out to mid → Put (again_bytes2 s [] o.cursor.place o.cursor.left) to mid r after → Put (bytes_in in_form2 (roll_at s)) 0 out r after
  roll-put2 out to mid r after p q = rw bytes-are2 (put_both ((o.cursor.kind + form_two) ∷ between s 1 o.cursor.place) (again_bytes2 s [] o.cursor.place o.cursor.left) 0 out to mid p r after q)

  pub beyond2 : (out : List ℕ) (start : ℕ) → length out < start → MoveTold in_form2 (roll_at s) out start (Err (fault StartBeyondEnd 0)) out
  beyond2 out start past = told-beyond in_form2 (roll_at s) out start may.roll may.end may.reads past

  long2 : length (bytes_in in_form2 (roll_at s)) ≡ length (in_form2 may.roll)
  long2 = ap (λ (x : Reading Roll). length (bytes_in in_form2 x)) may.reads

  pub fits-sure2 : (room : ℕ) (t : Bool) → t ≡ leb (length s + o.cursor.left) room → t ≡ true → true ≡ leb (length (bytes_in in_form2 (roll_at s))) room
  fits-sure2 room t test on = sym (le-leb (length (bytes_in in_form2 (roll_at s))) room (omega (arith, may.most, long2, leb-true (length s + o.cursor.left) room (sym test ∙ on))))

  pub fits-measured2 : (room n : ℕ) (t : Bool) → n ≡ length (again_bytes2 s [] o.cursor.place o.cursor.left) → t ≡ leb (o.cursor.place + n) room → t ≡ leb (length (bytes_in in_form2 (roll_at s))) room
  fits-measured2 room n t measured test =
      let size : o.cursor.place + n ≡ length (bytes_in in_form2 (roll_at s)) = omega (arith, measured, ap length bytes-are2, length-append ((o.cursor.kind + form_two) ∷ between s 1 o.cursor.place) (again_bytes2 s [] o.cursor.place o.cursor.left), head-long2) in
      test ∙ ap (λ (m : ℕ). leb m room) size

  module _ (out : List ℕ) (start : ℕ) (t : Bool) (inside : start ≤ length out) (test : t ≡ leb (length (bytes_in in_form2 (roll_at s))) (length out - start)) where
    pub full2 : t ≡ false → MoveTold in_form2 (roll_at s) out start (Err (fault NoRoom 0)) out
    full2 off = told-full in_form2 (roll_at s) out start may.roll may.end may.reads (length (bytes_in in_form2 (roll_at s))) t inside test long2 off

    pub moved2 : (r : ℕ) (part : List ℕ) → t ≡ true → Put (bytes_in in_form2 (roll_at s)) 0 (take (length out - start) (drop start out)) r part → MoveTold in_form2 (roll_at s) out start (Ok (record { length = r; terms = o.cursor.left })) (put_mid start (length out - start) out part)
    moved2 r part on put =
        let all : r ≡ length (bytes_in in_form2 (roll_at s)) = omega (arith, put.next) in
        rw all (told_moved in_form2 (roll_at s) out start may.roll may.end may.reads (length (bytes_in in_form2 (roll_at s))) t inside test long2 o.cursor.left part on may.count put.out)

pub refused2 : (s : List ℕ) (x : Result Opened Fault) (out : List ℕ) (start : ℕ) (why : Fault) → x ≡ check_of s → x ≡ Err why → MoveTold in_form2 (roll_at s) out start (Err why) out
refused2 s x out start why is err = told-refused in_form2 (roll_at s) out start why (checked_refused s x why is err)
