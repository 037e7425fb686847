-- The functions of src/check.rt: a law for each need and each way out.
use Prim.Native.Nat.{ℕ, zero, suc, ◌-◌}
use mathlib.Core.Path.{◌≡◌, refl, sym, ap, subst, ◌∙◌}
use mathlib.Core.Bool.{Bool, true, false}
use mathlib.Core.List.{List, ◌++◌}
use native.Mathlib.Omega.{arith}
use borrow.Author.Tests.{le-ltb}
use lib.ListN.{length, drop, replicate, length-append, length-replicate}
use lib.Seq.{drop_at}
use Rattle.laws.specs.Same.{same_numbers}
use Rattle.laws.specs.Total.{total}
use Rattle.laws.proofs.Cases.{clash, tested}
use Rattle.kind.specs.declared.Kind.{Kind}
use Rattle.kind.specs.Kinds.{kind_of, orders_of}
use Rattle.kind.specs.Limits.{request_orders}
use Rattle.kind.proofs.KindNumber.{kind-number}
use Rattle.kind.proofs.Within.{orders-within}
use Rattle.term.specs.Terms.{Term}
use Rattle.roll.specs.declared.header.Opened.{Opened}
use Rattle.roll.specs.Reading.{Reading, got, refused, Header, header_at, terms_at}
use Rattle.roll.specs.Header.{refused_opened, held_header, open_of, judged, checked, check_of}
use Rattle.roll.proofs.HeaderLaws.{orders-length}
use Rattle.roll.proofs.Inside.{header_read}
use Rattle.form2.specs.declared.header.Opened2.{Opened2}
use Rattle.form2.specs.Bytes.{shared}
use Rattle.form2.specs.Header.{is_form2, begun_of, open2_of}
use Rattle.form2.specs.Reading.{header_at2}
use Rattle.expansion.specs.declared.matching.Against.{Against}
use Rattle.expansion.specs.declared.matching.Against.TheVariants.{Same, Differs}
use Rattle.expansion.specs.Against.{held_against, kind_against, named_against}
use Rattle.expansion.specs.Expanding.{terms_of, roll_of}
use Rattle.small.specs.Profile.{small}
use Rattle.small.specs.Check.{in_form2, if_fresh, with_terms, opened_of, in_form1, small_check_of}
use Rattle.small.specs.Shown.{SmallRequest}
use Rattle.small.specs.inner.Checking.{small_as, HeaderMay, SmallMay, TermsMay}
use Rattle.small.proofs.Most.{not-too-many, not-too-high}
use Rattle.std.specs.Prelude.{Option, Some, Result, Ok, Err}
use Rattle.kind.specs.declared.refusals.Refusal.{Refusal}
use Rattle.kind.specs.declared.refusals.Refusal.TheVariants.{OutsideProfile, NotTheExpansion}
use Rattle.kind.specs.declared.refusals.Fault.{Fault}
use Rattle.kind.proofs.Faults.{err-is}
use Rattle.roll.specs.Field.{fault}

-- ---- either form

module _ (s : List ℕ) (b : Bool) (r : Result Opened Fault) (is : b ≡ is_form2 s) where
  pub check-two : b ≡ true → r ≡ in_form2 (header_at2 s) → r ≡ small_check_of s
  unfolding small_check_of
  check-two t e = e ∙ sym (simp (sym is ∙ t))

  pub check-one : b ≡ false → r ≡ in_form1 s (header_at s) → r ≡ small_check_of s
  unfolding small_check_of
  check-one f e = e ∙ sym (simp (sym is ∙ f))

-- a refusal is handed on with its place
handed : {A : Type 0} (r : Refusal) (place : ℕ) (why : Fault) → ◌≡◌ {A = Result A Fault} (Err (fault r place)) (Err why) → Err why ≡ refused_opened r place
handed {A} r place why e = let same = err-is {A = A} (fault r place) why e in rw (← same) refl

module _ (s : List ℕ) (y : Result Opened2 Fault) (is : y ≡ open2_of s) where
  pub form2-outside : (o : Opened2) → y ≡ Ok o → refused_opened OutsideProfile 0 ≡ in_form2 (header_at2 s)
  unfolding open2_of
  form2-outside o found = by (header_at2 s) (sym is ∙ found)
    where
      by : (x : Reading Header) → begun_of (held_header x) ≡ Ok o → refused_opened OutsideProfile 0 ≡ in_form2 x
      by (got h next) f = refl
      by (refused r place) f = absurd (clash (cc))

  pub form2-refused : (why : Fault) → y ≡ Err why → Err why ≡ in_form2 (header_at2 s)
  unfolding open2_of
  form2-refused why found = by (header_at2 s) (sym is ∙ found)
    where
      by : (x : Reading Header) → begun_of (held_header x) ≡ Err why → Err why ≡ in_form2 x
      by (got h next) f = absurd (clash (cc))
      by (refused r place) f = handed r place why f

-- ---- the header

pub named_small : (kind : ℕ) (k : Kind) (named : Option Kind) (orders : List ℕ) (r : Bool) → named ≡ kind_of kind → named ≡ Some k → r ≡ small k orders → r ≡ small_as (kind_of kind) orders
named_small kind k named orders r is e h = h ∙ ap (λ (n : Option Kind). small_as n orders) (sym e ∙ is)

module _ (s : List ℕ) (y : Result Opened Fault) (is : y ≡ open_of s) where
  pub header-may : (o : Opened) → y ≡ Ok o → HeaderMay s o
  unfolding open_of
  header-may o found = by (header_at s) refl
    where
      by : (x : Reading Header) → header_at s ≡ x → HeaderMay s o
      by (got h next) e = let both = sym found ∙ is ∙ ap held_header e in record { h = h; next = next; reads = e; held = cc }
      by (refused r place) e = let not = sym found ∙ is ∙ ap held_header e in absurd (clash (cc))

  pub header_refused : (why : Fault) → y ≡ Err why → Err why ≡ in_form1 s (header_at s)
  unfolding open_of
  header_refused why found = by (header_at s) (sym is ∙ found)
    where
      by : (x : Reading Header) → held_header x ≡ Err why → Err why ≡ in_form1 s x
      by (got h next) f = absurd (clash (cc))
      by (refused r place) f = handed r place why f

module _ (s : List ℕ) (o : Opened) (may : HeaderMay s o) (b : Bool) (test : b ≡ small_as (kind_of o.cursor.kind) o.orders) where
  within-is : b ≡ small may.h.kind (opened_of may.h may.next).orders
  within-is =
      test
      ∙ ap (λ (x : Opened). small_as (kind_of x.cursor.kind) x.orders) may.held
      ∙ ap (λ (n : Option Kind). small_as n (opened_of may.h may.next).orders) (kind-number may.h.kind)

  pub small-may : b ≡ true → SmallMay s
  small-may t = record { h = may.h; next = may.next; reads = may.reads; within = sym within-is ∙ t }

  pub header-outside : b ≡ false → refused_opened OutsideProfile 0 ≡ in_form1 s (header_at s)
  header-outside f = sym (ap (in_form1 s) may.reads ∙ simp (sym within-is ∙ f))

-- ---- the terms

module _ (s : List ℕ) (may : SmallMay s) where
  abbrev answer : Opened
  answer = opened_of may.h may.next

  abbrev the_terms : Reading (List Term)
  the_terms = terms_at s may.next may.h.terms may.h.kind (total may.h.orders)

  pub in-profile : in_form1 s (header_at s) ≡ with_terms s may.h.kind answer the_terms
  in-profile = ap (in_form1 s) may.reads ∙ simp may.within

  module _ (y : Result Opened Fault) (is : y ≡ check_of s) where
    judged-is : y ≡ judged (Ok answer) the_terms
    unfolding check_of
    judged-is = is ∙ ap (checked s) may.reads

    pub terms-may : (o : Opened) → y ≡ Ok o → TermsMay s o
    terms-may o found = by the_terms refl
      where
        by : (x : Reading (List Term)) → the_terms ≡ x → TermsMay s o
        by (got ts end) e = let both = sym found ∙ judged-is ∙ ap (judged (Ok answer)) e in record { header = may; terms = ts; end = end; reads = e; held = cc }
        by (refused r place) e = let not = sym found ∙ judged-is ∙ ap (judged (Ok answer)) e in absurd (clash (cc))

    pub terms-refused : (why : Fault) → y ≡ Err why → Err why ≡ in_form1 s (header_at s)
    terms-refused why found = by the_terms (sym judged-is ∙ found) ∙ sym in-profile
      where
        by : (x : Reading (List Term)) → judged (Ok answer) x ≡ Err why → Err why ≡ with_terms s may.h.kind answer x
        by (got ts end) f = absurd (clash (cc))
        by (refused r place) f = handed r place why f

-- ---- a header's twelve orders are a request of its kind

zeros-total : (n : ℕ) → total (replicate {A = ℕ} n 0) ≡ 0
unfolding total
zeros-total zero = refl
zeros-total (suc n) = omega (arith, zeros-total n)

pub header-request : (s : List ℕ) (may : SmallMay s) → SmallRequest may.h.kind (opened_of may.h may.next).orders
header-request s may =
    let h = may.h in
    let r = header_read s h may.next may.reads in
    let places = orders-length (orders_of h.kind) 0 0 s r.a h.orders r.b r.orders in
    let zeros = replicate {A = ℕ} (request_orders - length h.orders) 0 in
    let none : total (drop (orders_of h.kind) (h.orders ++ zeros)) ≡ 0 = ap total (drop_at h.orders zeros (orders_of h.kind) places) ∙ zeros-total (request_orders - length h.orders) in
    record {
      in-full = omega (arith, length-append h.orders zeros, length-replicate {A = ℕ} (request_orders - length h.orders) 0, places, orders-within h.kind);
      none-unused = le-ltb 0 (total (drop (orders_of h.kind) (h.orders ++ zeros))) (omega (arith, none));
      within = may.within;
    }

-- ---- the expansion

-- an answer beside another one
same_differs : (place long count : ℕ) → ◌≡◌ {A = Result Against Refusal} (Ok (Differs place)) (Ok (Same long count)) → ⊥
same_differs place long count e = let both : Differs place ≡ Same long count = cc in clash (cc)

same_place : (a b : ℕ) → ◌≡◌ {A = Result Against Refusal} (Ok (Differs a)) (Ok (Differs b)) → a ≡ b
same_place a b e = let both : Differs a ≡ Differs b = cc in cc

module _ (s : List ℕ) (o : Opened) (may : TermsMay s o) where
  abbrev kind : Kind
  kind = may.header.h.kind

  abbrev fresh : List ℕ
  fresh = roll_of may.header.h.kind o.orders

  pub fresh-is : in_form1 s (header_at s) ≡ if_fresh s fresh o
  fresh-is =
      in-profile s may.header
      ∙ ap (with_terms s may.header.h.kind (opened_of may.header.h may.header.next)) may.reads
      ∙ ap (λ (x : Opened). if_fresh s (roll_of may.header.h.kind x.orders) x) (sym may.held)

  pub request : SmallRequest may.header.h.kind o.orders
  request = subst (λ (x : Opened). SmallRequest may.header.h.kind x.orders) (sym may.held) (header-request s may.header)

  abbrev beside : Against
  beside = held_against s fresh (length (terms_of may.header.h.kind o.orders))

  module _ (met : Result Against Refusal) (told : met ≡ named_against roll_of (kind_of o.cursor.kind) o.orders s) where
    -- no refusal comes
    held-is : met ≡ Ok beside
    unfolding kind_against
    held-is =
        told
        ∙ ap (λ (n : Option Kind). named_against roll_of n o.orders s) (ap (λ (x : Opened). kind_of x.cursor.kind) may.held ∙ kind-number may.header.h.kind)
        ∙ simp (not-too-high may.header.h.kind o.orders request.within, request.none-unused, not-too-many may.header.h.kind o.orders request)

    pub fresh-same : (a : Against) (long count : ℕ) → met ≡ Ok a → a ≡ Same long count → Ok o ≡ in_form1 s (header_at s)
    fresh-same a long count m e =
        tested (same_numbers s fresh)
        (λ t. sym (fresh-is ∙ simp t))
        (λ f. let is : beside ≡ Differs (shared s fresh) = simp f in
        absurd (same_differs (shared s fresh) long count (ap (λ (x : Against). Ok x) (sym is) ∙ sym held-is ∙ m ∙ ap (λ (x : Against). Ok x) e)))

    pub fresh-differs : (a : Against) (place : ℕ) → met ≡ Ok a → a ≡ Differs place → refused_opened NotTheExpansion place ≡ in_form1 s (header_at s)
    fresh-differs a place m e =
        tested (same_numbers s fresh)
        (λ t. let is : beside ≡ Same (length fresh) (length (terms_of may.header.h.kind o.orders)) = simp t in
        absurd (same_differs place (length fresh) (length (terms_of may.header.h.kind o.orders)) (ap (λ (x : Against). Ok x) (sym e) ∙ sym m ∙ held-is ∙ ap (λ (x : Against). Ok x) is)))
        (λ f. let is : beside ≡ Differs (shared s fresh) = simp f in
        ap (refused_opened NotTheExpansion) (same_place place (shared s fresh) (ap (λ (x : Against). Ok x) (sym e) ∙ sym m ∙ held-is ∙ ap (λ (x : Against). Ok x) is)) ∙ sym (fresh-is ∙ simp f))

    pub fresh-never : (r : Result Opened Fault) (why : Refusal) → met ≡ Err why → r ≡ in_form1 s (header_at s)
    fresh-never r why e = let not = sym held-is ∙ e in absurd (clash (cc))
