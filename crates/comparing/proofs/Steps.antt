-- A side that was judged: stepping its cursor gives the terms that the roll says, in either form, and then the end.
use Prim.Native.Nat.{ℕ, suc, ◌≤◌}
use mathlib.Core.Path.{◌≡◌, refl, sym, ap, ◌∙◌}
use mathlib.Core.Bool.{true, false}
use mathlib.Core.List.{List, [], ◌∷◌, map}
use native.Mathlib.Omega.{arith}
use lib.ListN.{length}
use Rattle.std.specs.Prelude.{Some, None, Result, Ok, Err}
use Rattle.kind.specs.Limits.{most_terms}
use Rattle.kind.specs.Kinds.{orders_of}
use Rattle.kind.specs.declared.refusals.Fault.{Fault}
use Rattle.kind.proofs.Faults.{err-is}
use Rattle.laws.proofs.Cases.{clash, tested}
use Rattle.laws.specs.Total.{total}
use Rattle.term.specs.declared.Term.{Term as Held}
use Rattle.term.specs.Terms.{Term, held}
use Rattle.roll.specs.declared.header.Opened.{Opened}
use Rattle.roll.specs.Reading.{Reading, got, refused, terms_at, Header, header_at, Roll, roll_at}
use Rattle.roll.specs.Cursor.{Stepped, step_of, gathering, gathered, held_terms}
use Rattle.roll.specs.Header.{held_header, cursor_at, open_of, check_of}
use Rattle.roll.proofs.Checked.{opened-of, reads-checked, checked-reads, checked_refused}
use Rattle.roll.proofs.Filling.{before-is, and_then-is}
use Rattle.roll.proofs.HeaderLaws.{orders-length}
use Rattle.roll.proofs.Inside.{header_read}
use Rattle.roll.proofs.JudgeLaws.{terms-count}
use Rattle.roll.proofs.Steps.{header-steps}
use Rattle.form2.specs.declared.cursor.Cursor2.{Cursor2}
use Rattle.form2.specs.declared.cursor.Step2.{Step2}
use Rattle.form2.specs.declared.header.Opened2.{Opened2}
use Rattle.form2.specs.Cursor.{Stepped2, step2_of, gathering2, gathered2}
use Rattle.form2.specs.Header.{is_form2, first_cursor, begun, begun_of, open2_of, judged2, check2_of}
use Rattle.form2.specs.Reading.{header_at2, terms_after, roll_at2}
use Rattle.form2.proofs.Checked.{reads-checked2, checked-reads2, checked-refused2}
use Rattle.form2.proofs.Inside.{header-read2}
use Rattle.form2.proofs.Steps.{header-steps2}
use Rattle.form2.proofs.Written.{terms-count2}
use Rattle.comparing.specs.Sides.{side_at, open_side, check_side, as_step2, step_side}
use Rattle.comparing.specs.inner.Judged.{Gives, Judged}

-- ---- the terms that steps gather are the terms that they give

module _ (s : List ℕ) (gather : ℕ → Cursor2 → Reading (List Held)) (turn : (n : ℕ) (c : Cursor2) → gather (suc n) c ≡ gathering2 (step_side c s) (gather n) c.cursor.place) where
  none-gives : (c : Cursor2) (x : Stepped2) (end : ℕ) → gathering2 x (gather 0) c.cursor.place ≡ got [] end → x ≡ Ok None
  none-gives c (Ok (Some y)) end e = let b = before-is y.term (gather 0 y.next) [] end e in absurd (clash (cc b.2))
  none-gives c (Ok None) end e = refl
  none-gives c (Err why) end e = absurd (clash (cc))

  term-gives : (t : Held) (ts : List Held) (n : ℕ) (c : Cursor2) (x : Stepped2) (end : ℕ) → gathering2 x (gather n) c.cursor.place ≡ got (t ∷ ts) end → (y : Step2) × (x ≡ Ok (Some y)) × (y.term ≡ t) × (gather n y.next ≡ got ts end)
  term-gives t ts n c (Ok (Some y)) end e =
      let b = before-is y.term (gather n y.next) (t ∷ ts) end e in
      let first : y.term ≡ t = cc b.2 in
      let rest : b.0 ≡ ts = cc b.2 in
      (y, refl, first, b.1 ∙ ap (λ (ts : List Held). got ts end) rest)
  term-gives t ts n c (Ok None) end e = absurd (clash (cc))
  term-gives t ts n c (Err why) end e = absurd (clash (cc))

  gathers-gives : (ts : List Term) (c : Cursor2) (end : ℕ) → gather (suc (length ts)) c ≡ got (map held ts) end → Gives c s ts
  gathers-gives [] c end e = none-gives c (step_side c s) end (sym (turn 0 c) ∙ e)
  gathers-gives (t ∷ ts) c end e =
      let x = term-gives (held t) (map held ts) (suc (length ts)) c (step_side c s) end (sym (turn (suc (length ts)) c) ∙ e) in
      (x.0, x.1, x.2, gathers-gives ts x.0.next end x.3)

side-one : (c : Cursor2) (s : List ℕ) → is_form2 s ≡ false → step_side c s ≡ as_step2 (step_of c.cursor s)
unfolding step_side
side-one c s off = rw off

side-two : (c : Cursor2) (s : List ℕ) → is_form2 s ≡ true → step_side c s ≡ step2_of c s
unfolding step_side
side-two c s on = rw on

gathering-one : (x : Stepped) (rest : Cursor2 → Reading (List Held)) (place : ℕ) → gathering x (λ next. rest (first_cursor next)) place ≡ gathering2 (as_step2 x) rest place
gathering-one (Ok (Some y)) rest place = refl
gathering-one (Ok None) rest place = refl
gathering-one (Err why) rest place = refl

turn_one : (s : List ℕ) → is_form2 s ≡ false → (n : ℕ) (c : Cursor2) → gathered (suc n) c.cursor s ≡ gathering2 (step_side c s) (λ next. gathered n next.cursor s) c.cursor.place
unfolding gathered
turn_one s off n c =
    gathering-one (step_of c.cursor s) (λ next. gathered n next.cursor s) c.cursor.place
    ∙ sym (ap (λ (x : Stepped2). gathering2 x (λ next. gathered n next.cursor s) c.cursor.place) (side-one c s off))

turn_two : (s : List ℕ) → is_form2 s ≡ true → (n : ℕ) (c : Cursor2) → gathered2 (suc n) c s ≡ gathering2 (step_side c s) (λ next. gathered2 n next s) c.cursor.place
unfolding gathered2
turn_two s on n c = sym (ap (λ (x : Stepped2). gathering2 x (λ next. gathered2 n next s) c.cursor.place) (side-two c s on))

-- ---- the judge's answer

-- a roll's terms beside its header
abbrev pub beside : Header → List Term → ℕ → Reading Roll
beside h ts end = got (record { kind = h.kind; orders = h.orders; terms = ts }) end

sided-made : (s : List ℕ) (o : Opened2) (h : Header) (next : ℕ) (ts : List Term) (end : ℕ) → side_at s ≡ beside h ts end → open_side s ≡ Ok o → o ≡ begun (opened-of h next) → length ts ≡ h.terms → h.terms ≤ most_terms → length h.orders ≡ orders_of h.kind → Gives (first_cursor (cursor_at h next)) s ts → Judged o s
sided-made s o h next ts end reads header is count few places gives =
    record {
      roll = record { kind = h.kind; orders = h.orders; terms = ts };
      end = end;
      reads = reads;
      header = header;
      kind = ap (λ (o : Opened2). o.cursor.cursor.kind) is;
      left = ap (λ (o : Opened2). o.cursor.cursor.left) is ∙ sym count;
      few = omega (arith, count, few);
      orders = ap (λ (o : Opened2). o.orders) is;
      places = places;
      gives = rw (ap (λ (o : Opened2). o.cursor) is) gives;
    }

-- of form 1
sided-one : (s : List ℕ) (o : Opened) → is_form2 s ≡ false → check_of s ≡ Ok o → Judged (begun o) s
unfolding side_at open_side roll_at open_of
sided-one s o off found =
    let r = checked-reads s o found in
    let x = and_then-is (header_at s) _ r.0 r.1 r.2 in
    let h = x.0 in
    let y = and_then-is (terms_at s x.1 h.terms h.kind (total h.orders)) (beside h) r.0 r.1 x.3 in
    let hr = header_read s h x.1 x.2 in
    let q = reads-checked s r.0 r.1 r.2 in
    let checks = q.checks in
    let same : q.opened ≡ o = cc in
    let opens : held_header (header_at s) ≡ Ok o = q.opens ∙ ap (λ (o : Opened). Ok o) same in
    let is : Ok o ≡ held_header (got h x.1) = sym opens ∙ ap held_header x.2 in
    let opened : o ≡ opened-of h x.1 = cc in
    let count : length y.0 ≡ h.terms = terms-count h.terms h.kind (total h.orders) s x.1 y.0 y.1 y.2 in
    let steps : gathered (suc (length y.0)) (cursor_at h x.1) s ≡ got (map held y.0) y.1 = rw count (header-steps s h x.1 x.2 ∙ ap held_terms y.2) in
    sided-made s (begun o) h x.1 y.0 y.1
    (rw off (r.2 ∙ sym y.3))
    (rw off (ap begun_of opens))
    (ap begun opened)
    count
    hr.terms.below
    (orders-length (orders_of h.kind) 0 0 s hr.a h.orders hr.b hr.orders)
    (gathers-gives s (λ n c. gathered n c.cursor s) (turn_one s off) y.0 (first_cursor (cursor_at h x.1)) y.1 steps)

-- of form 2
sided-two : (s : List ℕ) (o : Opened) → is_form2 s ≡ true → judged2 s ≡ Ok o → Judged (begun o) s
unfolding side_at open_side roll_at2 open2_of
sided-two s o on found =
    let r = checked-reads2 s o found in
    let x = and_then-is (header_at2 s) _ r.0 r.1 r.2 in
    let h = x.0 in
    let y = and_then-is (terms_after s x.1 h.terms h.kind (total h.orders) []) (beside h) r.0 r.1 x.3 in
    let hr = header-read2 s h x.1 x.2 in
    let q = reads-checked2 s r.0 r.1 r.2 in
    let checks = q.checks in
    let same : q.opened ≡ o = cc in
    let opens : held_header (header_at2 s) ≡ Ok o = q.opens ∙ ap (λ (o : Opened). Ok o) same in
    let is : Ok o ≡ held_header (got h x.1) = sym opens ∙ ap held_header x.2 in
    let opened : o ≡ opened-of h x.1 = cc in
    let count : length y.0 ≡ h.terms = terms-count2 h.terms h.kind (total h.orders) [] s x.1 y.0 y.1 y.2 in
    let steps : gathered2 (suc (length y.0)) (first_cursor (cursor_at h x.1)) s ≡ got (map held y.0) y.1 = rw count (header-steps2 s h x.1 x.2 ∙ ap held_terms y.2) in
    sided-made s (begun o) h x.1 y.0 y.1
    (rw on (r.2 ∙ sym y.3))
    (rw on (ap begun_of opens))
    (ap begun opened)
    count
    hr.terms.below
    (orders-length (orders_of h.kind) 0 0 s hr.a h.orders hr.b hr.orders)
    (gathers-gives s (λ n c. gathered2 n c s) (turn_two s on) y.0 (first_cursor (cursor_at h x.1)) y.1 steps)

-- an answer of a header with no term before
begun-is : (x : Result Opened Fault) (o : Opened2) → begun_of x ≡ Ok o → (q : Opened) × (x ≡ Ok q) × (begun q ≡ o)
begun-is (Ok q) o e = (q, refl, cc)
begun-is (Err why) o e = absurd (clash (cc))

begun-refused : (x : Result Opened Fault) (why : Fault) → begun_of x ≡ Err why → x ≡ Err why
begun-refused (Ok q) why e = absurd (clash (cc))
begun-refused (Err e) why is = let same : e ≡ why = err-is {A = Opened2} e why is in rw same

pub sided : (s : List ℕ) (o : Opened2) → check_side s ≡ Ok o → Judged o s
unfolding check_side check2_of
sided s o is =
    tested (is_form2 s)
    (λ on. let q = begun-is (judged2 s) o (rw on at is) in rw (← q.2) (sided-two s q.0 on q.1))
    (λ off. let q = begun-is (check_of s) o (rw off at is) in rw (← q.2) (sided-one s q.0 off q.1))

pub side-refused : (s : List ℕ) (why : Fault) → check_side s ≡ Err why → side_at s ≡ refused why.refusal why.place
unfolding side_at check_side check2_of
side-refused s why e =
    tested (is_form2 s)
    (λ on. rw on (checked-refused2 s why (begun-refused (judged2 s) why (rw on at e))))
    (λ off. rw off (checked_refused s (check_of s) why refl (begun-refused (check_of s) why (rw off at e))))
