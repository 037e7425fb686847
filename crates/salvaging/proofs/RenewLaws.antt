-- The functions of src/lib.rt: a law for each need and each way out.
use Prim.Native.Nat.{ℕ, zero-le, ◌+◌, ◌-◌, ◌≤◌}
use mathlib.Core.Path.{◌≡◌, refl, sym, ap, ap₂, ◌∙◌}
use mathlib.Core.Bool.{Bool, true, false, cond, not}
use mathlib.Core.List.{List, []}
use native.Mathlib.Omega.{arith}
use borrow.Author.Tests.{eq-eqb, ne_eqb, eqb-true, eqb-false, ltb-false}
use lib.Dec.{eqb}
use lib.ListN.{length, take, drop}
use lib.Seq.{length-sets}
use Rattle.laws.proofs.Cases.{clash}
use Rattle.laws.proofs.Parts.{part-all, sets-placed}
use Rattle.laws.specs.Placed.{placed}
use Rattle.laws.specs.Total.{total}
use Rattle.kind.specs.Limits.{most_terms}
use Rattle.kind.specs.Kinds.{kind_of}
use Rattle.kind.proofs.KindNumber.{kind-number}
use Rattle.number.specs.Numbers.{length_of, Bytes}
use Rattle.roll.specs.declared.cursor.Cursor.{Cursor}
use Rattle.roll.specs.declared.header.Opened.{Opened}
use Rattle.roll.specs.Reading.{Reading, got, refused, Header}
use Rattle.roll.specs.Header.{cursor_at, held_header}
use Rattle.form2.specs.Bytes.{shared}
use Rattle.expansion.specs.declared.Expanded.{Expanded}
use Rattle.expansion.specs.Answer.{Answer, Roll, Refused}
use Rattle.expansion.specs.Expanding.{◌exceeds◌, too_many, terms_of, kind_in, named_in, out_in, FormTold}
use Rattle.expansion.specs.inner.Requests.{RequestWithin}
use Rattle.expansion.proofs.Demanded.{answered, cut}
use Rattle.salvaging.specs.declared.forms.Form.{Form}
use Rattle.salvaging.specs.declared.After.{After}
use Rattle.salvaging.specs.declared.After.TheVariants as after
use Rattle.salvaging.specs.declared.Told.{Told}
use Rattle.salvaging.specs.Salvage.{Salvaged, form_of, header_in, roll_in, request_of, fresh_terms, fresh_roll, Leading, leading, leading_of, after_of, told_of, salvaged_in, bytes_out, salvaged_of, out_of, SalvageTold}
use Rattle.salvaging.specs.inner.Ends.{behind, Whole, ends_within}
use Rattle.salvaging.specs.inner.Forms.{terms_bytes_in}
use Rattle.salvaging.specs.inner.Renewing.{after_by, ToldMay, ToldFrom, RenewMay, RenewTold}
use Rattle.salvaging.proofs.Fresh.{HeaderIs, header_is, header-long, request-within, fresh-fits, fresh_from, fresh-tail}
use Rattle.salvaging.proofs.Kept.{terms-whole, ends-lead, lead-place}
use Rattle.std.specs.Prelude.{Option, Some, Result, Ok, Err}
use Rattle.kind.specs.declared.refusals.Refusal.{Refusal}
use Rattle.kind.specs.declared.refusals.Fault.{Fault}
use Rattle.kind.proofs.Faults.{err-is}
use Rattle.roll.specs.Field.{fault}
use Rattle.roll.proofs.Checked.{opened-of}
use Rattle.kind.specs.declared.refusals.Refusal.TheVariants.{TooManyTerms, StartBeyondEnd, NoRoom}
use Rattle.kind.specs.declared.Kind.{Kind}

-- ---- a damaged roll against the fresh one

same_test : (a b x y : ℕ) → (a ≡ b → x ≡ y) → (x ≡ y → a ≡ b) → eqb a b ≡ eqb x y
same_test a b x y there back = by (eqb a b) refl
  where
    by : (v : Bool) → eqb a b ≡ v → eqb a b ≡ eqb x y
    by true e = e ∙ sym (eq-eqb x y (there (eqb-true a b e)))
    by false e = e ∙ sym (ne_eqb x y (λ same. eqb-false a b e (back same)))

module _ (f : Form) (s : List ℕ) (c : Cursor) (fresh : List ℕ) (terms : ℕ) (may : ToldMay f s c fresh terms) where
  pub compared_whole : (a b : ℕ) → a ≡ length_of c.left → b ≡ length_of terms → Whole (behind f) (take (length fresh - (c.place - a + b)) (drop (c.place - a + b) fresh)) 0 terms
  compared_whole a b stored count = rw (stored, count, part-all fresh (c.place - length_of c.left + length_of terms)) may.whole

  module _ (a b kept : ℕ) (aft : After) (stored : a ≡ length_of c.left) (count : b ≡ length_of terms) where
    -- what the code tells of both
    abbrev from : ℕ
    from = c.place - a + b

    abbrev told : Told
    told = record { length = length fresh; terms = terms; kept = kept; anew = terms - kept; miscounted = not (eqb c.left terms); after = aft }

    pub compared-told : kept ≡ ends_within (behind f) (take (length fresh - from) (drop from fresh)) (shared (take (length s - c.place) (drop c.place s)) (take (length fresh - from) (drop from fresh))) 0 terms
        → aft ≡ after_by (eqb kept terms) (eqb (length s - c.place) (length fresh - from)) → ToldFrom f s told
    unfolding told_of leading_of
    compared-told kept-is aft-is =
        let h = may.header.h in
        let next = may.header.next in
        let ts = fresh_terms h in
        let l = total h.orders in
        let parts : HeaderIs f s h next = header_is f s h next may.bytes may.header.reads in
        let place : c.place ≡ next = ap (λ (x : Cursor). x.place) may.cursor in
        let left : c.left ≡ h.terms = ap (λ (x : Cursor). x.left) may.cursor in
        let long = header-long f s h next parts in
        let counted : b ≡ length_of (length ts) = count ∙ ap length_of may.count in
        let began : a ≡ length_of h.terms = stored ∙ ap length_of left in
        let from_is : from ≡ fresh_from f h = omega (arith, place, long, counted, began) in
        let tail = terms_bytes_in f [] ts in
        let ends = fresh-tail f h parts.places in
        let part : take (length fresh - from) (drop from fresh) ≡ tail = part-all fresh from ∙ ap₂ drop from_is may.roll ∙ ends.0 in
        let rest : take (length s - c.place) (drop c.place s) ≡ drop next s = part-all s c.place ∙ ap (λ (n : ℕ). drop n s) place in
        let fit = fresh-fits h parts.places parts.sums (omega (arith, may.count, may.few)) in
        let lead = ends-lead f h.kind l parts.most ts [] s tail next 0 (shared (drop next s) tail) fit may.bytes refl (omega arith) in
        let all : kept ≡ (leading f s next h.kind l [] ts).count =
        kept-is ∙ ap₂ (λ (x y : List ℕ). ends_within (behind f) y (shared x y) 0 terms) rest part ∙ ap (ends_within (behind f) tail (shared (drop next s) tail) 0) may.count ∙ lead in
        let behind-it : length fresh - from ≡ length tail = omega (arith, ap length may.roll, from_is, ends.1) in
        let follows : aft ≡ after_of s (length ts) (leading f s next h.kind l [] ts) =
        aft-is ∙ ap₂ (λ (x y : ℕ). after_by (eqb x y) (eqb (length s - c.place) (length fresh - from))) all may.count
        ∙ ap₂ (λ (x y : ℕ). after_by (eqb (leading f s next h.kind l [] ts).count (length ts)) (eqb (length s - x) y)) place behind-it
        ∙ by_end (leading f s next h.kind l [] ts) (length ts) next (length tail) parts.inside (λ e. lead-place f h.kind l ts [] s next may.bytes parts.inside e) in
        record {
          header = may.header;
          is = made (length fresh) (length (fresh_roll f h)) terms (length ts) kept (leading f s next h.kind l [] ts).count c.left h.terms aft (after_of s (length ts) (leading f s next h.kind l [] ts)) (ap length may.roll) may.count all left follows;
        }
      where
        by_end : (x : Leading) (n next long : ℕ) → next ≤ length s → (x.count ≡ n → x.place ≡ next + long) → after_by (eqb x.count n) (eqb (length s - next) long) ≡ after_of s n x
        by_end x n next long inside place = by (eqb x.count n) refl
          where
            by : (v : Bool) → eqb x.count n ≡ v → after_by v (eqb (length s - next) long) ≡ cond v (cond (eqb x.place (length s)) after.None after.Bytes) after.Unknown
            by false e = refl
            by true e = let there = place (eqb-true x.count n e) in ap (λ (t : Bool). cond t after.None after.Bytes) (same_test (length s - next) long x.place (length s) (λ p. omega (arith, p, there, inside)) (λ p. omega (arith, p, there, inside)))

        made : (m n t u k j q r : ℕ) (v w : After) → m ≡ n → t ≡ u → k ≡ j → q ≡ r → v ≡ w
            → ◌≡◌ {A = Told} (record { length = m; terms = t; kept = k; anew = t - k; miscounted = not (eqb q t); after = v }) (record { length = n; terms = u; kept = j; anew = u - j; miscounted = not (eqb r u); after = w })
        made m n t u k j q r v w a b c d e = rw (a, b, c, d, e) refl

-- ---- the request of a header worked out afresh

-- what `expanded` answers of a header's request, told of the roll
abbrev pub as_salvaged : Told → Answer → Salvaged
as_salvaged t (Ok e) = Ok t
as_salvaged t (Err r) = Err (fault r 0)

module _ (f : Form) (s : List ℕ) (h : Header) (next : ℕ) (within : RequestWithin h.kind (request_of h)) (out : List ℕ) (start : ℕ) where
  -- the tests of both, and what they come to
  pub answered-as : salvaged_in f s (got h next) out start ≡ as_salvaged (told_of f s h next) (kind_in (roll_in f) h.kind (request_of h) out start)
  unfolding salvaged_in kind_in fresh_roll
  answered-as = rw (within.low_sums, within.none-unused) (by (start exceeds length out) (too_many h.kind (request_of h)) (start + length (roll_in f h.kind (request_of h)) exceeds length out))
    where
      by : (five four six : Bool) →
          cond {A = Salvaged} five (Err (fault StartBeyondEnd 0)) (cond four (Err (fault TooManyTerms 0)) (cond six (Err (fault NoRoom 0)) (Ok (told_of f s h next))))
          ≡ as_salvaged (told_of f s h next) (cond five (Refused StartBeyondEnd) (cond four (Refused TooManyTerms) (cond six (Refused NoRoom) (Roll (length (roll_in f h.kind (request_of h))) (length (terms_of h.kind (request_of h)))))))
      by true four six = refl
      by false true six = refl
      by false false true = refl
      by false false false = refl

-- what is known of a header's request, whichever the answer
record Asked (f : Form) (s : List ℕ) (h : Header) (next : ℕ) (before : List ℕ) (start : ℕ) (w : Answer) (now : List ℕ) : Type 0 where
  pub parts : HeaderIs f s h next
  pub within : RequestWithin h.kind (request_of h)
  pub answer : w ≡ kind_in (roll_in f) h.kind (request_of h) before start
  pub out : now ≡ out_in (roll_in f) w (Some h.kind) (request_of h) before start

module _ (f : Form) (s : List ℕ) (o : Opened) (before : List ℕ) (start : ℕ) (may : RenewMay f s o) (w : Answer) (now : List ℕ) (told : FormTold (roll_in f) o.cursor.kind o.orders before start w now) where
  abbrev hd : Header
  hd = may.header.h

  opened-is : o ≡ opened-of hd may.header.next
  opened-is = let is = may.held in cc

  asked : Asked f s may.header.h may.header.next before start w now
  unfolding request_of
  asked =
      let parts = header_is f s hd may.header.next may.bytes may.header.reads in
      let kind : kind_of o.cursor.kind ≡ Some hd.kind = ap (λ (x : Opened). kind_of x.cursor.kind) opened-is ∙ kind-number hd.kind in
      let orders : o.orders ≡ request_of hd = ap (λ (x : Opened). x.orders) opened-is in
      let is : w ≡ kind_in (roll_in f) hd.kind (request_of hd) before start = told.answer ∙ ap₂ (λ (n : Option Kind) (os : List ℕ). named_in (roll_in f) n os before start) kind orders in
      record {
        parts = parts;
        within = request-within hd parts.places parts.sums;
        answer = is;
        out =
            told.out
            ∙ ap (λ (x : Answer). out_in (roll_in f) x (kind_of o.cursor.kind) o.orders before start) (sym told.answer)
            ∙ ap₂ (λ (n : Option Kind) (os : List ℕ). out_in (roll_in f) w n os before start) kind orders;
      }

  -- the answer that the definition gives
  salvaged : (r : Told) → r ≡ told_of f s may.header.h may.header.next → as_salvaged r w ≡ salvaged_in f s (header_in f s) before start
  salvaged r is =
      let a = asked in
      ap₂ as_salvaged is a.answer
      ∙ sym (answered-as f s hd may.header.next a.within before start)
      ∙ ap (λ (x : Reading Header). salvaged_in f s x before start) (sym may.header.reads)

  pub renew-refused : (n : Refusal) → w ≡ Err n → RenewTold f s before start (Err (fault n 0)) now
  renew-refused n e =
      let a = asked in
      let told_is = told_of f s hd may.header.next in
      let is : Err (fault n 0) ≡ salvaged_in f s (header_in f s) before start = ap (as_salvaged told_is) (sym e) ∙ salvaged told_is refl in
      record {
        answer = is;
        out = a.out ∙ ap (λ (x : Answer). out_in (roll_in f) x (Some hd.kind) (request_of hd) before start) e ∙ ap (λ (x : Salvaged). bytes_out x f (header_in f s) before start) is;
      }

  module _ (fresh : Expanded) (e : w ≡ Ok fresh) where
    abbrev long : ℕ
    long = fresh.length

    abbrev count : ℕ
    count = fresh.terms

    -- its length and count, its room, and where it stands
    record Renewed : Type 0 where
      pub long-is : long ≡ length (fresh_roll f may.header.h)
      pub count-is : count ≡ length (fresh_terms may.header.h)
      pub few : count ≤ most_terms
      pub room : start + long ≤ length before
      pub stands : now ≡ placed before start (fresh_roll f may.header.h)
      pub cut-is : take long (drop start now) ≡ fresh_roll f may.header.h

    renewed : Renewed
    unfolding fresh_roll fresh_terms
    renewed =
        let a = asked in
        let r = answered (roll_in f) hd.kind (request_of hd) before start long count (sym a.answer ∙ e) in
        let begins : start ≤ length before = ltb-false (length before) start r.five in
        let room = ltb-false (length before) (start + length (roll_in f hd.kind (request_of hd))) r.six in
        let few = ltb-false most_terms (length (terms_of hd.kind (request_of hd))) r.four in
        let stands : now ≡ placed before start (roll_in f hd.kind (request_of hd)) = a.out ∙ ap (λ (x : Answer). out_in (roll_in f) x (Some hd.kind) (request_of hd) before start) e in
        record {
          long-is = r.long-is;
          count-is = r.count-is;
          few = omega (arith, few, r.count-is);
          room = omega (arith, room, r.long-is);
          stands = stands;
          cut-is = cut before start long now (roll_in f hd.kind (request_of hd)) begins r.long-is stands;
        }

    pub renew-room : start + long ≤ length before
    renew-room = renewed.room

    pub renew-end : start + long ≤ length now
    renew-end =
        let r = renewed in
        let same = ap length r.stands ∙ ap length (sym (sets-placed (fresh_roll f may.header.h) before start (omega (arith, r.room, r.long-is)))) ∙ length-sets before start (fresh_roll f may.header.h) in
        omega (arith, r.room, same)

    pub renew-may : ToldMay f s o.cursor (take (start + long - start) (drop start now)) count
    renew-may =
        let r = renewed in
        let parts = asked.parts in
        let next = may.header.next in
        let ts = fresh_terms hd in
        let same : start + long - start ≡ long = omega arith in
        let cursor : o.cursor ≡ cursor_at hd next = ap (λ (x : Opened). x.cursor) opened-is in
        let long-head = header-long f s hd next parts in
        let place : o.cursor.place ≡ next = ap (λ (x : Cursor). x.place) cursor in
        let stored : length_of o.cursor.left ≡ length_of hd.terms = ap (λ (x : Cursor). length_of x.left) cursor in
        let counted : length_of count ≡ length_of (length ts) = ap length_of r.count-is in
        let from_is : o.cursor.place - length_of o.cursor.left + length_of count ≡ fresh_from f hd = omega (arith, place, stored, counted, long-head) in
        let ends = fresh-tail f hd parts.places in
        let fit = fresh-fits hd parts.places parts.sums (omega (arith, r.count-is, r.few)) in
        let whole = terms-whole f hd.kind (total hd.orders) parts.most ts [] (terms_bytes_in f [] ts) 0 fit zero-le refl in
        rw (same, r.cut-is)
        (record {
          header = may.header;
          bytes = may.bytes;
          cursor = cursor;
          roll = refl;
          count = r.count-is;
          few = r.few;
          inside = omega (arith, place, parts.inside);
          stored = omega (arith, stored, place, long-head);
          from = omega (arith, from_is, ends.1);
          whole = rw (from_is, ends.0, r.count-is) whole;
        })

    pub renew-told : (r : Told) → ToldFrom f s r → RenewTold f s before start (Ok r) now
    renew-told r from =
        let both : got from.header.h from.header.next ≡ got hd may.header.next = sym from.header.reads ∙ may.header.reads in
        let one : from.header.h ≡ hd = cc in
        let two : from.header.next ≡ may.header.next = cc in
        let is : Ok r ≡ salvaged_in f s (header_in f s) before start = ap (as_salvaged r) (sym e) ∙ salvaged r (from.is ∙ ap₂ (told_of f s) one two) in
        record {
          answer = is;
          out = renewed.stands ∙ ap (λ (x : Reading Header). bytes_out (Ok r) f x before start) (sym may.header.reads) ∙ ap (λ (x : Salvaged). bytes_out x f (header_in f s) before start) is;
        }

-- ---- the header first

module _ (f : Form) (s : List ℕ) (y : Result Opened Fault) (is : y ≡ held_header (header_in f s)) where
  pub renew-first : (o : Opened) → Bytes s → y ≡ Ok o → RenewMay f s o
  renew-first o bytes found = by (header_in f s) refl
    where
      by : (x : Reading Header) → header_in f s ≡ x → RenewMay f s o
      by (got h next) e = record { header = record { h = h; next = next; reads = e }; bytes = bytes; held = sym found ∙ is ∙ ap held_header e }
      by (refused r place) e = let not = sym found ∙ is ∙ ap held_header e in absurd (clash (cc))

  pub salvage-refused : (why : Fault) (before : List ℕ) (start : ℕ) → f ≡ form_of s → y ≡ Err why → SalvageTold s before start (Err why) before
  unfolding salvaged_of out_of salvaged_in
  salvage-refused why before start form found = by (header_in f s) refl
    where
      by : (x : Reading Header) → header_in f s ≡ x → SalvageTold s before start (Err why) before
      by (got h next) e = let not = sym found ∙ is ∙ ap held_header e in absurd (clash (cc))
      by (refused r place) e =
          let same : fault r place ≡ why = err-is (fault r place) why (sym (is ∙ ap held_header e) ∙ found) in
          let reads : header_in (form_of s) s ≡ refused why.refusal why.place = ap (λ (g : Form). header_in g s) (sym form) ∙ e ∙ ap (λ (w : Fault). refused w.refusal w.place) same in
          record {
            answer = ap (λ (x : Reading Header). salvaged_in (form_of s) s x before start) (sym reads);
            out = ap (λ (x : Reading Header). bytes_out (salvaged_in (form_of s) s x before start) (form_of s) x before start) (sym reads);
          }

pub salvage-told : (f : Form) (s before : List ℕ) (start : ℕ) (r : Salvaged) (now : List ℕ) → f ≡ form_of s → RenewTold f s before start r now → SalvageTold s before start r now
unfolding salvaged_of out_of
salvage-told f s before start r now form told =
    record {
      answer = told.answer ∙ ap (λ (g : Form). salvaged_in g s (header_in g s) before start) form;
      out = told.out ∙ ap (λ (g : Form). bytes_out (salvaged_in g s (header_in g s) before start) g (header_in g s) before start) form;
    }
