-- The functions of src/judge.rt: the loop over the terms, and a whole roll judged, its header, then its terms.
use Prim.Native.Nat.{ℕ, zero, suc, ◌+◌, ◌*◌, ◌-◌, ◌≤◌, ◌<◌}
use mathlib.Core.Path.{◌≡◌, refl, sym, ap, ◌∙◌}
use mathlib.Core.Bool.{Bool, true, false, cond}
use mathlib.Core.List.{List, [], ◌∷◌, ◌++◌}
use native.Mathlib.Omega.{arith}
use native.Mathlib.Nat.{not-suc-le-zero}
use lib.Dec.{eqb}
use lib.ListN.{length, take, drop, length-append}
use lib.Seq.{sets, length-sets, sets-eq, take_at}
use Rattle.kind.specs.Limits.{most_l·any, table_places}
use Rattle.kind.specs.Kinds.{kind_of, table_of, most_l, most_prefactors}
use Rattle.kind.specs.declared.Kind.{Kind}
use Rattle.kind.proofs.KindNumber.{kind-number}
use Rattle.kind.proofs.Within.{table-within}
use Rattle.laws.proofs.Cases.{clash}
use Rattle.laws.specs.Total.{total}
use Rattle.number.specs.Numbers.{bytes_of, length_of}
use Rattle.number.proofs.Writing.{bytes-last, length-few}
use Rattle.term.specs.Terms.{Term}
use Rattle.roll.specs.declared.header.Opened.{Opened}
use Rattle.roll.specs.Bytes.{numbers_bytes, term_bytes, terms_bytes}
use Rattle.roll.specs.Fits.{Below, TermFits}
use Rattle.roll.specs.Reading.{Reading, got, refused, and_then, before, Header}
use Rattle.roll.specs.Header.{held_header, judged}
use Rattle.roll.proofs.TermsLaws.{few-prefactors}
use Rattle.form2.specs.declared.judge.Sized.{Sized}
use Rattle.form2.specs.declared.terms.ReadAfter.{ReadAfter}
use Rattle.form2.specs.Reading.{header_at2, term_after, terms_after, roll_at2}
use Rattle.form2.specs.Header.{begun, begun_of, checked2, judged2, check2_of}
use Rattle.form2.specs.inner.Held.{held_after, places_after, AfterTold, term_length, size_plus, end_size, sized_from, size_in, sized_with, sized_of}
use Rattle.form2.proofs.Inside.{header-most2}
use Rattle.form2.proofs.Written.{EarlierFits, term-earlier, term-fits2}
use Rattle.form2.proofs.Checked.{beside, whole}
use Rattle.form2.proofs.TermsLaws.{after_as}
use Rattle.roll.proofs.Checked.{opened-of}
use Rattle.roll.specs.Field.{fault}
use Rattle.kind.proofs.Faults.{err-is}
use Rattle.kind.specs.declared.refusals.Fault.{Fault}
use Rattle.std.specs.Prelude.{Option, Some, None, Result, Ok, Err}
use Rattle.kind.specs.declared.refusals.Refusal.TheVariants.{BadRoll}

-- ---- what a term takes in form 1

pub one-byte-each : (table : ℕ) (ps : List ℕ) → table ≤ table_places → Below table ps → numbers_bytes ps ≡ ps
unfolding numbers_bytes
one-byte-each table [] places below = refl
one-byte-each table (p ∷ ps) places below =
    let under = below.0 in
    ap (λ (l : List ℕ). l ++ numbers_bytes ps) (bytes-last p (omega arith)) ∙ ap (λ (l : List ℕ). p ∷ l) (one-byte-each table ps places below.1)

pub term-length : (k : Kind) (l : ℕ) (t : Term) → TermFits k l t → length (term_bytes t) ≡ term_length t.scale t.boys (length t.prefactors)
unfolding term_bytes term_length length_of
term-length k l t fit =
    let ps = t.prefactors in
    let one = one-byte-each (table_of k) ps (table-within k) fit.prefactors in
    let a = length-append (bytes_of t.scale) (bytes_of t.boys ++ (bytes_of (length ps) ++ numbers_bytes ps)) in
    let b = length-append (bytes_of t.boys) (bytes_of (length ps) ++ numbers_bytes ps) in
    let c = length-append (bytes_of (length ps)) (numbers_bytes ps) in
    let d = ap length one in
    omega arith

pub few_bytes : (a n : ℕ) → a ≡ length_of n → a ≤ 5
few_bytes a n is = omega (arith, length-few n)

pub length-small : (scale boys count : ℕ) → term_length scale boys count ≤ 15 + count
unfolding term_length
length-small scale boys count = omega (arith, length-few scale, length-few boys, length-few count)

pub length-is : (scale boys count a b c : ℕ) → a ≡ length_of scale → b ≡ length_of boys → c ≡ length_of count → a + b + c + count ≡ term_length scale boys count
unfolding term_length
length-is scale boys count a b c p q r = rw (p, q, r)

-- ---- the loop over the terms

pub record Sizing (s : List ℕ) (at terms : ℕ) (k : Kind) (l : ℕ) (values : List ℕ) (count place done n : ℕ) : Type 0 where
  pub inside : done ≤ terms
  pub small : l ≤ most_l k
  pub long : length values ≡ most_l·any
  pub few : count ≤ most_prefactors k l
  pub fits : EarlierFits k l (take count values)
  pub bound : n ≤ 64 * done
  pub whole : size_plus n (terms_after s place (terms - done) k l (take count values)) ≡ size_plus 0 (terms_after s at terms k l [])

pub terms-turn2 : (left : ℕ) (k : Kind) (l : ℕ) (earlier s : List ℕ) (place : ℕ) (x : Reading Term) → 0 < left → term_after s place k l earlier ≡ x → terms_after s place left k l earlier ≡ and_then x (λ t next. before (t ∷ []) (terms_after s next (left - 1) k l t.prefactors))
unfolding terms_after
terms-turn2 zero k l earlier s place x some e = absurd (not-suc-le-zero some)
terms-turn2 (suc left) k l earlier s place x some e = let less : suc left - 1 ≡ left = omega arith in rw (less, e)

size-more : (n : ℕ) (t : Term) (r : Reading (List Term)) → size_plus n (before (t ∷ []) r) ≡ size_plus (n + length (term_bytes t)) r
unfolding terms_bytes
size-more n t (got ts end) = let sum : n + length (term_bytes t ++ terms_bytes ts) ≡ n + length (term_bytes t) + length (terms_bytes ts) = omega (arith, length-append (term_bytes t) (terms_bytes ts)) in ap (λ (m : ℕ). Ok m) sum
size-more n t (refused r place) = refl

-- one more turn of the reading
term-turn : (done terms : ℕ) (k : Kind) (l : ℕ) (earlier s : List ℕ) (place : ℕ) (x : Reading Term) → done < terms → term_after s place k l earlier ≡ x → terms_after s place (terms - done) k l earlier ≡ and_then x (λ t next. before (t ∷ []) (terms_after s next (terms - (done + 1)) k l t.prefactors))
term-turn done terms k l earlier s place x some e = let less : terms - done - 1 ≡ terms - (done + 1) = omega arith in rw less at (terms-turn2 (terms - done) k l earlier s place x (omega arith) e)

-- what was read is a term; its prefactors stand in front
module _ (s : List ℕ) (k : Kind) (l : ℕ) (values : List ℕ) (count place : ℕ) (x : Result ReadAfter Fault) (after : List ℕ) (small : l ≤ most_l k) (long : length values ≡ most_l·any) (fits : EarlierFits k l (take count values)) (told : AfterTold values (term_after s place k l (take count values)) x after) where
  pub record Read (read : ReadAfter) : Type 0 where
    pub term : Term
    pub reads : term_after s place k l (take count values) ≡ got term read.end
    pub is : read ≡ after_as term read.end
    pub kept : length after ≡ most_l·any
    pub fit : TermFits k l term
    pub few : read.count ≤ most_l·any
    pub front : take read.count after ≡ term.prefactors

  pub was_read : (read : ReadAfter) → x ≡ Ok read → Read read
  was_read read ok = by (term_after s place k l (take count values)) refl
    where
      by : (y : Reading Term) → term_after s place k l (take count values) ≡ y → Read read
      by (got t end) reads =
          let read-is : Ok read ≡ held_after (got t end) = sym ok ∙ told.read ∙ ap held_after reads in
          let same : read ≡ after_as t end = cc in
          let there : end ≡ read.end = sym (ap (λ (r : ReadAfter). r.end) same) in
          let ps = t.prefactors in
          let number : read.count ≡ length ps = ap (λ (r : ReadAfter). r.count) same in
          let places : after ≡ sets values 0 ps = told.places ∙ ap (places_after values after) reads in
          let fit = term-fits2 k l (take count values) s place t end fits reads in
          let few : read.count ≤ most_l·any = omega (arith, fit.count, few-prefactors k l small) in
          record {
            term = t;
            reads = reads ∙ ap (λ (n : ℕ). got t n) there;
            is = same ∙ ap (after_as t) there;
            kept = ap length places ∙ length-sets values 0 ps ∙ long;
            fit = fit;
            few = few;
            front = ap (take read.count) (places ∙ sets-eq ps values 0 (omega arith)) ∙ take_at ps (drop (0 + length ps) values) read.count (sym number);
          }
      by (refused r p) reads =
          let read-is : Ok read ≡ held_after (refused r p) = sym ok ∙ told.read ∙ ap held_after reads in
          absurd (clash (cc))

  -- a refusal that was read
  was-refused : (why : Fault) → x ≡ Err why → term_after s place k l (take count values) ≡ refused why.refusal why.place
  was-refused why err = by (term_after s place k l (take count values)) refl
    where
      by : (y : Reading Term) → term_after s place k l (take count values) ≡ y → term_after s place k l (take count values) ≡ refused why.refusal why.place
      by (got t end) reads =
          let is : held_after (got t end) ≡ Err why = sym (ap held_after reads) ∙ sym told.read ∙ err in
          absurd (clash (cc))
      by (refused q p) reads =
          let is : held_after (refused q p) ≡ Err why = sym (ap held_after reads) ∙ sym told.read ∙ err in
          let same : fault q p ≡ why = err-is (fault q p) why is in
          rw (← same) reads

module _ (s : List ℕ) (at terms : ℕ) (k : Kind) (l : ℕ) (values : List ℕ) (count place done n : ℕ) (x : Result ReadAfter Fault) (after : List ℕ) (z : Sizing s at terms k l values count place done n) (some : done < terms) (told : AfterTold values (term_after s place k l (take count values)) x after) where
  pub read-few : (read : ReadAfter) → x ≡ Ok read → read.count ≤ most_l·any
  read-few read ok = (was_read s k l values count place x after z.small z.long z.fits told read ok).few

  pub sizing-more : (read : ReadAfter) (v : ℕ) → x ≡ Ok read → v ≡ term_length read.scale read.boys read.count → Sizing s at terms k l after read.count read.end (done + 1) (n + v)
  sizing-more read v ok size_is =
      let r = was_read s k l values count place x after z.small z.long z.fits told read ok in
      let t = r.term in
      let fit = r.fit in
      let number : read.count ≡ length t.prefactors = ap (λ (a : ReadAfter). a.count) r.is in
      let length-of : v ≡ length (term_bytes t) = size_is ∙ ap (λ (a : ReadAfter). term_length a.scale a.boys a.count) r.is ∙ sym (term-length k l t fit) in
      let bound = z.bound in
      let few = r.few in
      record {
        inside = omega arith;
        small = z.small;
        long = r.kept;
        few = omega (arith, number, fit.count);
        fits = rw r.front (term-earlier k l t fit);
        bound = omega (arith, size_is, length-small read.scale read.boys read.count);
        whole =
            ap (λ (ps : List ℕ). size_plus (n + v) (terms_after s read.end (terms - (done + 1)) k l ps)) r.front
            ∙ ap (λ (w : ℕ). size_plus (n + w) (terms_after s read.end (terms - (done + 1)) k l t.prefactors)) length-of
            ∙ sym (size-more n t (terms_after s read.end (terms - (done + 1)) k l t.prefactors))
            ∙ ap (size_plus n) (sym (term-turn done terms k l (take count values) s place (got t read.end) some r.reads))
            ∙ z.whole;
      }

  pub sizing-fits : (read : ReadAfter) (v : ℕ) → x ≡ Ok read → v ≡ term_length read.scale read.boys read.count → n + v ≤ 64 * terms
  sizing-fits read v ok size_is = omega (arith, z.bound, size_is, length-small read.scale read.boys read.count, read-few read ok)

  pub sizing-refused : (why : Fault) → x ≡ Err why → Err why ≡ size_plus 0 (terms_after s at terms k l [])
  sizing-refused why err =
      let reads = was-refused s k l values count place x after z.small z.long z.fits told why err in
      sym (ap (size_plus n) (term-turn done terms k l (take count values) s place (refused why.refusal why.place) some reads)) ∙ z.whole

sizes-end : (n place : ℕ) (b : Bool) → cond {A = Result ℕ Fault} b (Ok n) (Err (fault BadRoll place)) ≡ size_plus n (cond b (got [] place) (refused BadRoll place))
unfolding terms_bytes
sizes-end n place true = ap (λ (m : ℕ). Ok m) (omega arith)
sizes-end n place false = refl

end_of : (s : List ℕ) (k : Kind) (l : ℕ) (earlier : List ℕ) (place left n : ℕ) → left ≡ 0 → end_size (length s) place n ≡ size_plus n (terms_after s place left k l earlier)
unfolding terms_after
end_of s k l earlier place left n none = rw none (sizes-end n place (eqb place (length s)))

pub sizing-done : (s : List ℕ) (at terms : ℕ) (k : Kind) (l : ℕ) (values : List ℕ) (count place done n : ℕ) (y : Result ℕ Fault) → Sizing s at terms k l values count place done n → terms ≤ done → y ≡ end_size (length s) place n → y ≡ size_plus 0 (terms_after s at terms k l [])
sizing-done s at terms k l values count place done n y z all answer = answer ∙ end_of s k l (take count values) place (terms - done) n (omega arith) ∙ z.whole

-- ---- the judge

kind-sized : (o : Opened) (x : Reading (List Term)) (n : ℕ) → size_plus 0 x ≡ Ok n → Ok (record { opened = o; size = n }) ≡ sized_from o x
kind-sized o (got ts end) n e = let same : 0 + length (terms_bytes ts) ≡ n = cc in ap (λ (m : ℕ). Ok (record { opened = o; size = m })) (omega arith)
kind-sized o (refused r place) n e = absurd (clash (cc))

kind-unsized : (o : Opened) (x : Reading (List Term)) (why : Fault) → size_plus 0 x ≡ Err why → Err why ≡ sized_from o x
kind-unsized o (got ts end) why e = absurd (clash (cc))
kind-unsized o (refused q p) why e = let same : fault q p ≡ why = err-is (fault q p) why e in rw same

terms-sized : (h : Header) (next : ℕ) (x : Reading (List Term)) → sized_with (size_in (and_then x (beside h))) (judged (held_header (got h next)) x) ≡ sized_from (opened-of h next) x
terms-sized h next (got ts end) = refl
terms-sized h next (refused r place) = refl

-- the header that was read, and its kind
same-header : (h : Header) (next : ℕ) (o : Opened) (n : Option Kind) (k : Kind) → held_header (got h next) ≡ Ok o → n ≡ kind_of o.cursor.kind → n ≡ Some k → (opened-of h next ≡ o) × (h.kind ≡ k)
same-header h next o n k ok is e =
    let same : opened-of h next ≡ o = cc in
    let kind : Some h.kind ≡ Some k = sym (kind-number h.kind) ∙ ap (λ (o : Opened). kind_of o.cursor.kind) same ∙ sym is ∙ e in
    (same, cc)

header-small : (s : List ℕ) (x : Reading Header) (o : Opened) (n : Option Kind) (k : Kind) → header_at2 s ≡ x → held_header x ≡ Ok o → n ≡ kind_of o.cursor.kind → n ≡ Some k → o.cursor.l ≤ most_l k
header-small s (got h next) o n k reads ok is e = let same = same-header h next o n k ok is e in rw (← same.0, ← same.1) (header-most2 s h next reads)
header-small s (refused r place) o n k reads ok is e = absurd (clash (cc))

header-sized : (s : List ℕ) (x : Reading Header) (o : Opened) (n : Option Kind) (k : Kind) → held_header x ≡ Ok o → n ≡ kind_of o.cursor.kind → n ≡ Some k → sized_from o (terms_after s o.cursor.place o.cursor.left k o.cursor.l []) ≡ sized_with (size_in (and_then x (whole s))) (checked2 s x)
header-sized s (got h next) o n k ok is e = let same = same-header h next o n k ok is e in rw (← same.0, ← same.1) (sym (terms-sized h next (terms_after s next h.terms h.kind (total h.orders) [])))
header-sized s (refused r place) o n k ok is e = absurd (clash (cc))

module _ (s : List ℕ) (y : Result Opened Fault) (is : y ≡ held_header (header_at2 s)) where
  module _ (o : Opened) (ok : y ≡ Ok o) (n : Option Kind) (kind : n ≡ kind_of o.cursor.kind) where
    pub judge-small2 : (k : Kind) → n ≡ Some k → o.cursor.l ≤ most_l k
    judge-small2 k e = header-small s (header_at2 s) o n k refl (sym is ∙ ok) kind e

    module _ (k : Kind) (e : n ≡ Some k) (x : Result ℕ Fault) (sized : x ≡ size_plus 0 (terms_after s o.cursor.place o.cursor.left k o.cursor.l [])) where
      pub judge-sized : (m : ℕ) → x ≡ Ok m → Ok (record { opened = o; size = m }) ≡ sized_of s
      unfolding sized_of judged2 roll_at2
      judge-sized m went = kind-sized o (terms_after s o.cursor.place o.cursor.left k o.cursor.l []) m (sym sized ∙ went) ∙ header-sized s (header_at2 s) o n k (sym is ∙ ok) kind e

      pub judge-stopped : (why : Fault) → x ≡ Err why → Err why ≡ sized_of s
      unfolding sized_of judged2 roll_at2
      judge-stopped why err = kind-unsized o (terms_after s o.cursor.place o.cursor.left k o.cursor.l []) why (sym sized ∙ err) ∙ header-sized s (header_at2 s) o n k (sym is ∙ ok) kind e

    -- the header's own kind has a name
    pub judge-known : {P : Type 0} → n ≡ None → P
    judge-known {P} none = by (header_at2 s) (sym is ∙ ok)
      where
        by : (x : Reading Header) → held_header x ≡ Ok o → P
        by (got h next) read =
            let same : opened-of h next ≡ o = cc in
            let known : Some h.kind ≡ None = sym (kind-number h.kind) ∙ ap (λ (o : Opened). kind_of o.cursor.kind) same ∙ sym kind ∙ none in
            absurd (clash (cc))
        by (refused r place) read = absurd (clash (cc))

  pub judge-refused : (why : Fault) → y ≡ Err why → Err why ≡ sized_of s
  unfolding sized_of judged2
  judge-refused why err = by (header_at2 s) (sym is ∙ err)
    where
      by : (x : Reading Header) → held_header x ≡ Err why → Err why ≡ sized_with (size_in (roll_at2 s)) (checked2 s x)
      by (got h next) e = absurd (clash (cc))
      by (refused r place) e = let same : fault r place ≡ why = err-is (fault r place) why e in rw same

-- what was judged, of the header's answer alone
pub sized-opened : (n : ℕ) (x : Result Opened Fault) (z : Sized) → sized_with n x ≡ Ok z → (x ≡ Ok z.opened) × (n ≡ z.size)
sized-opened n (Ok o) z e =
    let same : record { opened = o; size = n } ≡ z = cc in
    (ap (λ (z : Sized). Ok z.opened) same, ap (λ (z : Sized). z.size) same)
sized-opened n (Err why) z e = absurd (clash (cc))

pub sized-refused : (n : ℕ) (x : Result Opened Fault) (why : Fault) → sized_with n x ≡ Err why → x ≡ Err why
sized-refused n (Ok o) why e = absurd (clash (cc))
sized-refused n (Err f) why e = let same : f ≡ why = err-is f why e in rw same

pub check2-is : (s : List ℕ) (x : Result Sized Fault) (z : Sized) → x ≡ sized_of s → x ≡ Ok z → Ok (begun z.opened) ≡ check2_of s
unfolding check2_of sized_of
check2-is s x z is ok = ap begun_of (sym (sized-opened (size_in (roll_at2 s)) (judged2 s) z (sym is ∙ ok)).0)

pub check2-not : (s : List ℕ) (x : Result Sized Fault) (why : Fault) → x ≡ sized_of s → x ≡ Err why → Err why ≡ check2_of s
unfolding check2_of sized_of
check2-not s x why is err = ap begun_of (sym (sized-refused (size_in (roll_at2 s)) (judged2 s) why (sym is ∙ err)))
