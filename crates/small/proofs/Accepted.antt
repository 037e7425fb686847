-- The profile's reader answers a roll exactly for the bytes that its expansion writes; so what it accepts has few terms and few bytes.
use Prim.Native.Nat.{ℕ, ◌+◌, ◌≤◌}
use mathlib.Core.Path.{◌≡◌, refl, sym, ap, ap₂, ◌∙◌}
use mathlib.Core.Bool.{Bool, true, false, cond, not}
use mathlib.Core.List.{List, ◌++◌}
use native.Mathlib.Omega.{arith}
use borrow.Author.Tests.{le-ltb}
use lib.ListN.{length, get_or, take}
use Rattle.laws.specs.Placed.{placed}
use Rattle.laws.specs.Same.{same_numbers}
use Rattle.laws.specs.Total.{total}
use Rattle.laws.proofs.Cases.{clash, tested}
use Rattle.laws.proofs.SameLaws.{same-numbers-refl, same-numbers-is}
use Rattle.kind.specs.declared.Kind.{Kind}
use Rattle.kind.specs.Kinds.{kind_of, number_of, orders_of}
use Rattle.kind.proofs.KindNumber.{kind-number}
use Rattle.kind.proofs.Within.{number-within}
use Rattle.term.specs.Terms.{Term}
use Rattle.number.specs.Numbers.{bytes_of}
use Rattle.number.proofs.Writing.{bytes-last}
use Rattle.roll.specs.declared.header.Opened.{Opened}
use Rattle.roll.specs.Bytes.{numbers_bytes, terms_bytes, roll_bytes}
use Rattle.roll.specs.Reading.{Reading, got, refused, Header, header_at, terms_at, roll_at}
use Rattle.roll.specs.Header.{refused_opened, held_header, open_of, check_of}
use Rattle.roll.specs.inner.Judged.{Judged}
use Rattle.roll.proofs.Checked.{Headed, checked-judged, headed, judged-left}
use Rattle.form2.specs.Bytes.{shared}
use Rattle.form2.specs.Header.{is_form2}
use Rattle.form2.specs.Reading.{header_at2}
use Rattle.form2.proofs.HeaderLaws.{form2-low}
use Rattle.expansion.specs.Answer.{Answer, Roll, Refused}
use Rattle.expansion.specs.Demands.{written_at, ReadsBack}
use Rattle.expansion.specs.Expanding.{◌exceeds◌, too_high, unused_set, terms_of, roll_of, named_out, ExpandTold}
use Rattle.expansion.specs.inner.Requests.{RequestWithin}
use Rattle.expansion.proofs.Demanded.{cut, known, written_is, demand-2}
use Rattle.expansion.proofs.ReadsBack.{reads-back}
use Rattle.small.specs.Profile.{small}
use Rattle.small.specs.Check.{in_form2, with_terms, opened_of, in_form1, small_check_of}
use Rattle.small.specs.Expand.{small_kind, small_named}
use Rattle.small.specs.Shown.{SmallRequest, SmallWritten, OnlyWritten, EveryWritten, terms_with_four, form1_with_four, check_with_four, SameCheckWithFour, FewAccepted}
use Rattle.small.specs.inner.Checking.{SmallMay}
use Rattle.small.proofs.CheckLaws.{check-one, check-two, in-profile, header-request}
use Rattle.small.proofs.ExpandLaws.{same-named}
use Rattle.small.proofs.Most.{not-too-high, not-too-many}
use Rattle.small.proofs.Units.{few-terms, short-roll}
use Rattle.std.specs.Prelude.{Option, Some, None, Ok}
use Rattle.kind.specs.declared.refusals.Refusal.TheVariants.{OrderSum, UnusedOrder, StartBeyondEnd, NoRoom, OutsideProfile, NotTheExpansion}

-- the twelve orders of a header
abbrev orders_in : Header → ℕ → List ℕ
orders_in h next = (opened_of h next).orders

-- ---- what is accepted is the expansion

record IsFresh (s : List ℕ) (o : Opened) : Type 0 where
  header : SmallMay s
  same : s ≡ roll_of header.h.kind (orders_in header.h header.next)
  answer : o ≡ opened_of header.h header.next

not-form2 : (x : Reading Header) (o : Opened) → in_form2 x ≡ Ok o → ⊥
not-form2 (got h next) o f = clash (cc)
not-form2 (refused r place) o f = clash (cc)

module _ (s : List ℕ) (o : Opened) where
  with-terms : (may : SmallMay s) (x : Reading (List Term)) → with_terms s may.h.kind (opened_of may.h may.next) x ≡ Ok o → IsFresh s o
  with-terms may (refused r place) g = absurd (clash (cc))
  with-terms may (got ts end) g =
      tested (same_numbers s (roll_of may.h.kind (orders_in may.h may.next)))
      (λ same.
      let is : with_terms s may.h.kind (opened_of may.h may.next) (got ts end) ≡ Ok (opened_of may.h may.next) = simp same in
      record { header = may; same = same-numbers-is s (roll_of may.h.kind (orders_in may.h may.next)) same; answer = cc })
      (λ other.
      let is : with_terms s may.h.kind (opened_of may.h may.next) (got ts end) ≡ refused_opened NotTheExpansion (shared s (roll_of may.h.kind (orders_in may.h may.next))) = simp other in
      let not = sym is ∙ g in
      absurd (clash (cc not)))

  of-header : (x : Reading Header) → header_at s ≡ x → in_form1 s x ≡ Ok o → IsFresh s o
  of-header (refused r place) e f = absurd (clash (cc))
  of-header (got h next) e f =
      tested (small h.kind (orders_in h next))
      (λ w.
      let may : SmallMay s = record { h = h; next = next; reads = e; within = w } in
      let is : with_terms s h.kind (opened_of h next) (terms_at s next h.terms h.kind (total h.orders)) ≡ in_form1 s (got h next) = sym (in-profile s may) ∙ ap (in_form1 s) e in
      with-terms may (terms_at s next h.terms h.kind (total h.orders)) (is ∙ f))
      (λ w.
      let is : in_form1 s (got h next) ≡ refused_opened OutsideProfile 0 = simp w in
      let not = sym is ∙ f in
      absurd (clash (cc not)))

  accepted : small_check_of s ≡ Ok o → IsFresh s o
  accepted found =
      tested (is_form2 s)
      (λ t. absurd (not-form2 (header_at2 s) o (check-two s (is_form2 s) (in_form2 (header_at2 s)) refl t refl ∙ found)))
      (λ f. of-header (header_at s) refl (check-one s (is_form2 s) (in_form1 s (header_at s)) refl f refl ∙ found))

-- ---- a request of the profile, expanded

within : (k : Kind) (os : List ℕ) → SmallRequest k os → RequestWithin k os
within k os may = record { low_sums = not-too-high k os may.within; none-unused = may.none-unused; in-full = may.in-full }

small-roll : (k : Kind) (os out : List ℕ) → SmallRequest k os → length (roll_of k os) ≤ length out → small_named (kind_of (number_of k)) os out 0 ≡ Roll (length (roll_of k os)) (length (terms_of k os))
unfolding small_kind
small-roll k os out may room =
    ap (λ (n : Option Kind). small_named n os out 0) (kind-number k)
    ∙ simp (not-too-high k os may.within, may.none-unused, may.within, le-ltb (length out) 0 (omega arith), le-ltb (length out) (0 + length (roll_of k os)) (omega arith))

pub only-written : OnlyWritten
only-written s o found =
    let a = accepted s o found in
    let k = a.header.h.kind in
    let os = orders_in a.header.h a.header.next in
    let may = header-request s a.header in
    let long : length (roll_of k os) ≡ length s = ap length (sym a.same) in
    let told = small-roll k os s may (omega arith) in
    record {
      kind = number_of k;
      orders = os;
      in-full = may.in-full;
      before = s;
      begin = 0;
      long = length (roll_of k os);
      count = length (terms_of k os);
      after = placed s 0 (roll_of k os);
      told = record { answer = sym told; out = sym (ap₂ (λ (r : Answer) (n : Option Kind). named_out r n os s 0) told (kind-number k)) };
      is = a.same ∙ sym (cut s 0 (length (roll_of k os)) (placed s 0 (roll_of k os)) (roll_of k os) (omega arith) refl refl);
    }

-- ---- it has no more terms and no more bytes

pub few-accepted : FewAccepted
unfolding open_of
few-accepted s o found =
    let a = accepted s o found in
    let k = a.header.h.kind in
    let os = orders_in a.header.h a.header.next in
    let may = header-request s a.header in
    let few = few-terms k os may in
    let short = short-roll k os may in
    let j : Judged o s = record {
      roll = record { kind = k; orders = take (orders_of k) os; terms = terms_of k os };
      end = length (roll_of k os);
      reads = ap roll_at a.same ∙ reads-back k os (within k os may) (omega arith);
      header = ap (λ (x : Opened). Ok x) a.answer ∙ sym (ap held_header a.header.reads);
    } in
    let left = judged-left o s j in
    let long = ap length a.same in
    (omega arith, omega arith)

-- ---- what the expansion writes is accepted

met : (a b c d e : Bool) (l n long count : ℕ) → cond a (Refused OrderSum) (cond b (Refused UnusedOrder) (cond (not c) (Refused OutsideProfile) (cond d (Refused StartBeyondEnd) (cond e (Refused NoRoom) (Roll l n))))) ≡ Roll long count
    → (a ≡ false) × (b ≡ false) × (c ≡ true)
met true b c d e l n long count is = absurd (clash (cc))
met false true c d e l n long count is = absurd (clash (cc))
met false false false d e l n long count is = absurd (clash (cc))
met false false true d e l n long count is = (refl, refl, refl)

-- the kind of an answer that is a roll, and the checks that it has passed
record Passed (kind : ℕ) (os out : List ℕ) (begin : ℕ) : Type 0 where
  k : Kind
  named : kind_of kind ≡ Some k
  low : too_high k os ≡ false
  none : unused_set k os ≡ false
  profile : small k os ≡ true

passed : (kind : ℕ) (os out : List ℕ) (begin long count : ℕ) → small_named (kind_of kind) os out begin ≡ Roll long count → Passed kind os out begin
unfolding small_kind
passed kind os out begin long count e = at (kind_of kind) refl e
  where
    at : (m : Option Kind) → kind_of kind ≡ m → small_named m os out begin ≡ Roll long count → Passed kind os out begin
    at None n e = absurd (clash (cc))
    at (Some k) n e =
        let p = met (too_high k os) (unused_set k os) (small k os) (begin exceeds length out) (begin + length (roll_of k os) exceeds length out) (length (roll_of k os)) (length (terms_of k os)) long count e in
        record { k = k; named = n; low = p.0; none = p.1; profile = p.2 }

first_one : (k : Kind) (os : List ℕ) → is_form2 (roll_of k os) ≡ false
unfolding roll_of roll_bytes
first_one k os =
    sym (form2-low (roll_bytes k (take (orders_of k) os) (terms_of k os)) (number_of k) (sym (ap (λ (l : List ℕ). get_or (l ++ (numbers_bytes (take (orders_of k) os) ++ (bytes_of (length (terms_of k os)) ++ terms_bytes (terms_of k os)))) 0 0) (bytes-last (number_of k) (omega (arith, number-within k))))) (omega (arith, number-within k)))

module _ (s : List ℕ) (w : SmallWritten s) where
  abbrev pass : Passed w.kind w.orders w.before w.begin
  pass = passed w.kind w.orders w.before w.begin w.long w.count (sym w.told.answer)

  as-told : ExpandTold w.kind w.orders w.before w.begin (Roll w.long w.count) w.after
  as-told =
      let p = pass in
      let same = same-named w.kind p.k w.orders w.before w.begin p.named (too_high p.k w.orders) (unused_set p.k w.orders) refl p.low refl p.none (small p.k w.orders) refl p.profile w.in-full in
      record { answer = w.told.answer ∙ sym same; out = w.told.out ∙ ap (λ (r : Answer). named_out r (kind_of w.kind) w.orders w.before w.begin) (sym same) }

  -- the bytes as they were written
  abbrev bytes : List ℕ
  bytes = written_at w.after w.begin w.long

  bytes-are : bytes ≡ roll_of pass.k w.orders
  bytes-are =
      let of = known roll_of w.kind w.orders w.before w.begin (Roll w.long w.count) w.after as-told (λ f. omega arith) in
      let is : Some of.k ≡ Some pass.k = sym of.named ∙ pass.named in
      let same : of.k ≡ pass.k = cc in
      written_is w.kind w.orders w.before w.begin w.long w.count w.after of ∙ ap (λ (k : Kind). roll_of k w.orders) same

  again : ReadsBack w.kind w.orders w.before w.begin w.long w.count w.after
  again = (demand-2 w.kind w.orders w.before w.begin w.in-full (Roll w.long w.count) w.after as-told).reads-back w.long w.count refl

  judged-bytes : Judged again.opened bytes
  judged-bytes = checked-judged bytes (check_of bytes) again.opened refl again.judged

  head : Headed again.opened bytes judged-bytes.roll
  head = headed again.opened bytes judged-bytes

  head-opened : again.opened ≡ opened_of head.header head.next
  head-opened = let is = head.opened in cc

  head-orders : orders_in head.header head.next ≡ w.orders
  head-orders = ap (λ (o : Opened). o.orders) (sym head-opened) ∙ again.judged-orders

  head-kind : head.header.kind ≡ pass.k
  head-kind =
      let number : number_of head.header.kind ≡ w.kind = ap (λ (o : Opened). o.cursor.kind) (sym head-opened) ∙ again.judged-kind in
      let is : Some head.header.kind ≡ Some pass.k = sym (kind-number head.header.kind) ∙ ap kind_of number ∙ pass.named in
      cc

  abbrev head_small : SmallMay bytes
  head_small = record { h = head.header; next = head.next; reads = head.is; within = ap₂ small head-kind head-orders ∙ pass.profile }

  fresh-bytes : bytes ≡ roll_of head.header.kind (orders_in head.header head.next)
  fresh-bytes = bytes-are ∙ ap₂ roll_of (sym head-kind) (sym head-orders)

  accepted-bytes : small_check_of bytes ≡ Ok (opened_of head.header head.next)
  accepted-bytes =
      sym (check-one bytes (is_form2 bytes) (in_form1 bytes (header_at bytes)) refl (ap is_form2 bytes-are ∙ first_one pass.k w.orders) refl)
      ∙ in-profile bytes head_small
      ∙ ap (with_terms bytes head.header.kind (opened_of head.header head.next)) head.reads
      ∙ simp (ap (same_numbers bytes) (sym fresh-bytes) ∙ same-numbers-refl bytes)

pub every-written : EveryWritten
every-written s w = (opened_of (head s w).header (head s w).next, ap small_check_of w.is ∙ accepted-bytes s w)

-- ---- 4 is never given

four-never : (s : List ℕ) (may : SmallMay s) (x : Reading (List Term)) → terms_with_four s may.h.kind (opened_of may.h may.next) x ≡ with_terms s may.h.kind (opened_of may.h may.next) x
four-never s may (refused n place) = refl
four-never s may (got ts end) = simp (not-too-many may.h.kind (orders_in may.h may.next) (header-request s may))

pub same-check-with-four : SameCheckWithFour
unfolding check_with_four small_check_of
same-check-with-four s = ap (cond (is_form2 s) (in_form2 (header_at2 s))) (by (header_at s) refl)
  where
    by : (x : Reading Header) → header_at s ≡ x → form1_with_four s x ≡ in_form1 s x
    by (refused n place) e = refl
    by (got h next) e =
        tested (small h.kind (orders_in h next))
        (λ w. ap (cond (not (small h.kind (orders_in h next))) (refused_opened OutsideProfile 0))
        (four-never s (record { h = h; next = next; reads = e; within = w }) (terms_at s next h.terms h.kind (total h.orders))))
        (λ w. simp w)
