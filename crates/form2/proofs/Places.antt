-- Each part of a form 2 roll is kept where it reads, and broken where it is refused (roll proofs/Mending.antt).
use Prim.Native.Nat.{ℕ, zero, suc, zero-le, ◌+◌, ◌-◌, ◌≤◌}
use mathlib.Core.Path.{◌≡◌, refl, sym, ap, ◌∙◌}
use mathlib.Core.Bool.{Bool, true, false, cond}
use mathlib.Core.List.{List, [], ◌∷◌, ◌++◌, append_assoc}
use mathlib.Core.Logic.{◌⊎◌, inl, inr}
use native.Mathlib.Omega.{arith}
use borrow.Author.Tests.{eq-eqb, ne_eqb, eqb-true, eqb-false}
use lib.Dec.{eqb}
use lib.ListN.{length, take, drop, replicate, length-replicate}
use Rattle.kind.specs.Limits.{most_scale, table_places}
use Rattle.kind.specs.Kinds.{kind_of, number_of, table_of, most_l, most_prefactors}
use Rattle.kind.specs.declared.Kind.{Kind}
use Rattle.kind.specs.declared.Kind.TheVariants.{Overlap, Kinetic, Nuclear, Moment, Coulomb}
use Rattle.kind.proofs.Within.{table-within}
use Rattle.laws.proofs.Cases.{clash}
use Rattle.laws.specs.Total.{total}
use Rattle.number.specs.Read.{Number}
use Rattle.number.specs.Numbers.{bytes_of}
use Rattle.term.specs.Terms.{Term}
use Rattle.roll.specs.Field.{Field}
use Rattle.roll.specs.Field as field
use Rattle.roll.specs.Reading.{Reading, got, refused, opened, within_at, onward, and_then, before, prefactors_at, most_boys, Header, of_kind, Roll}
use Rattle.roll.specs.Fits.{TermsFit}
use Rattle.roll.specs.Places.{here}
use Rattle.roll.proofs.FieldLaws.{taken}
use Rattle.roll.proofs.Filling.{and_then-is}
use Rattle.roll.proofs.Back.{field_back}
use Rattle.roll.proofs.Mending.{leads-inside, Kept, Broken, SomeBytes, kept-made, broken-made, some-made, some_number, some-field, broken-then, broken-number, kept-onward, broken-onward, kept_second, broken-first, broken-second, made_got, made-refused, kept-got, some-got, Cut, Long, made_ends, second-ends}
use Rattle.roll.proofs.Places.{prefactors-kept, prefactors-some, prefactors-broken, kind-kept, kind-some, kind-broken, known}
use Rattle.form2.specs.Bytes.{form_two, terms_bytes2}
use Rattle.form2.specs.Reading.{header_at2, Front, further_count_at, shared_at, boys_at2, front_at, goes_on, further_at, term_after, terms_after, roll_at2}
use Rattle.form2.proofs.Inside.{term-inside2, header-inside2, header-most2}
use Rattle.form2.proofs.Back.{terms-back2}
use Rattle.std.specs.Prelude.{Err}
use Rattle.kind.specs.declared.refusals.Refusal.{Refusal}
use Rattle.kind.specs.declared.refusals.Refusal.TheVariants.{BadRoll}

-- ---- the front of a term

module _ (k : Kind) (l scale boys shared : ℕ) where
  count_kept : (s : List ℕ) (at : ℕ) (f : Front) (end : ℕ) → further_count_at s at k l scale boys shared ≡ got f end → Kept (λ t. further_count_at t at k l scale boys shared) s at end
  unfolding further_count_at
  count_kept s at f end e =
      kept-onward (λ further next t. got (record { scale = scale; boys = boys; shared = shared; further = further }) next) s at 0 (most_prefactors k l - shared) end f
      (λ further next is e. kept-got (record { scale = scale; boys = boys; shared = shared; further = further }) f s next end e) e

  count-some : SomeBytes (λ at t. further_count_at t at k l scale boys shared)
  unfolding further_count_at
  count-some =
      some-field (λ further next t. got (record { scale = scale; boys = boys; shared = shared; further = further }) next) 0 (most_prefactors k l - shared) (omega arith) zero-le
      (some-got (record { scale = scale; boys = boys; shared = shared; further = 0 }))

  count-broken : (s : List ℕ) (at : ℕ) (r : Refusal) (p : ℕ) → further_count_at s at k l scale boys shared ≡ refused r p → Broken (λ t. further_count_at t at k l scale boys shared) s at r p
  unfolding further_count_at
  count-broken s at r p e =
      broken-onward (λ further next t. got (record { scale = scale; boys = boys; shared = shared; further = further }) next) s at 0 (most_prefactors k l - shared) r p (omega arith) zero-le
      (some-got (record { scale = scale; boys = boys; shared = shared; further = 0 }))
      (λ further next is e. absurd (clash (cc))) e

module _ (k : Kind) (l longest scale boys : ℕ) where
  shared_kept : (s : List ℕ) (at : ℕ) (f : Front) (end : ℕ) → shared_at s at k l longest scale boys ≡ got f end → Kept (λ t. shared_at t at k l longest scale boys) s at end
  unfolding shared_at
  shared_kept s at f end e = kept-onward (λ n next t. further_count_at t next k l scale boys n) s at 0 longest end f (λ n next is e. count_kept k l scale boys n s next f end e) e

  shared-some : SomeBytes (λ at t. shared_at t at k l longest scale boys)
  unfolding shared_at
  shared-some = some-field (λ n next t. further_count_at t next k l scale boys n) 0 longest (omega arith) zero-le (count-some k l scale boys 0)

  shared-broken : (s : List ℕ) (at : ℕ) (r : Refusal) (p : ℕ) → shared_at s at k l longest scale boys ≡ refused r p → Broken (λ t. shared_at t at k l longest scale boys) s at r p
  unfolding shared_at
  shared-broken s at r p e =
      broken-onward (λ n next t. further_count_at t next k l scale boys n) s at 0 longest r p (omega arith) zero-le (count-some k l scale boys 0)
      (λ n next is e. count-broken k l scale boys n s next r p e) e

module _ (k : Kind) (l longest scale : ℕ) where
  boys-kept : (s : List ℕ) (at : ℕ) (f : Front) (end : ℕ) → boys_at2 s at k l longest scale ≡ got f end → Kept (λ t. boys_at2 t at k l longest scale) s at end
  unfolding boys_at2
  boys-kept s at f end e = kept-onward (λ boys next t. shared_at t next k l longest scale boys) s at 0 (most_boys k l) end f (λ boys next is e. shared_kept k l longest scale boys s next f end e) e

  boys-some : SomeBytes (λ at t. boys_at2 t at k l longest scale)
  unfolding boys_at2
  boys-some = some-field (λ boys next t. shared_at t next k l longest scale boys) 0 (most_boys k l) (omega arith) zero-le (shared-some k l longest scale 0)

  boys-broken : (s : List ℕ) (at : ℕ) (r : Refusal) (p : ℕ) → boys_at2 s at k l longest scale ≡ refused r p → Broken (λ t. boys_at2 t at k l longest scale) s at r p
  unfolding boys_at2
  boys-broken s at r p e =
      broken-onward (λ boys next t. shared_at t next k l longest scale boys) s at 0 (most_boys k l) r p (omega arith) zero-le (shared-some k l longest scale 0)
      (λ boys next is e. shared-broken k l longest scale boys s next r p e) e

module _ (k : Kind) (l longest : ℕ) where
  front_kept : (s : List ℕ) (at : ℕ) (f : Front) (end : ℕ) → front_at s at k l longest ≡ got f end → Kept (λ t. front_at t at k l longest) s at end
  unfolding front_at
  front_kept s at f end e = kept-onward (λ scale next t. boys_at2 t next k l longest scale) s at 1 most_scale end f (λ scale next is e. boys-kept k l longest scale s next f end e) e

  front-broken : (s : List ℕ) (at : ℕ) (r : Refusal) (p : ℕ) → front_at s at k l longest ≡ refused r p → Broken (λ t. front_at t at k l longest) s at r p
  unfolding front_at
  front-broken s at r p e =
      broken-onward (λ scale next t. boys_at2 t next k l longest scale) s at 1 most_scale r p (omega arith) (omega arith) (boys-some k l longest 1)
      (λ scale next is e. boys-broken k l longest scale s next r p e) e

-- ---- the further prefactors

-- a prefactor that is not the one that follows in the term before
other : List ℕ → ℕ
other [] = 0
other (q ∷ qs) = cond (eqb q 0) 1 0

other-small : (follow : List ℕ) → other follow ≤ 1
unfolding other
other-small [] = zero-le
other-small (q ∷ qs) = by (eqb q 0)
  where
    by : (b : Bool) → cond b 1 0 ≤ 1
    by true = omega arith
    by false = zero-le

other-parts : (follow : List ℕ) → goes_on follow (other follow) ≡ false
unfolding other
other-parts [] = refl
other-parts (q ∷ qs) = by (eqb q 0) refl
  where
    by : (b : Bool) → eqb q 0 ≡ b → eqb q (cond b 1 0) ≡ false
    by true e = ne_eqb q 1 (λ one. omega (arith, one, eqb-true q 0 e))
    by false e = e

module _ (table : ℕ) (follow : List ℕ) where
  -- what follows a first further prefactor, with the place of its refusal
  abbrev then : ℕ → ℕ → ℕ → ℕ → List ℕ → Reading (List ℕ)
  then wrong count p next t = cond (goes_on follow p) (refused BadRoll wrong) (before (p ∷ []) (prefactors_at t next count table))

  further-kept : (count : ℕ) (s : List ℕ) (at : ℕ) (ps : List ℕ) (end : ℕ) → further_at s at count table follow ≡ got ps end → Kept (λ t. further_at t at count table follow) s at end
  unfolding further_at
  further-kept zero s at ps end e = kept-got [] ps s at end e
  further-kept (suc count) s at ps end e = kept-onward (then at count) s at 0 (table - 1) end ps (λ p next is e. by p next (goes_on follow p) e) e
    where
      by : (p next : ℕ) (b : Bool) → cond b (refused BadRoll at) (before (p ∷ []) (prefactors_at s next count table)) ≡ got ps end → Kept (λ t. cond b (refused BadRoll at) (before (p ∷ []) (prefactors_at t next count table))) s next end
      by p next true e = absurd (clash (cc))
      by p next false e =
          kept-made (λ qs. (p ∷ []) ++ qs) (λ t. prefactors_at t next count table) s next end
          (let m = made_got (λ qs. (p ∷ []) ++ qs) (prefactors_at s next count table) ps end e in prefactors-kept count table s next m.0 end m.1)

  module _ (two : 2 ≤ table) (places : table ≤ table_places) where
    then_some : (wrong count : ℕ) → SomeBytes (then wrong count (other follow))
    then_some wrong count =
        let c = prefactors-some count table in
        record {
          bytes = c.bytes;
          value = (other follow ∷ []) ++ c.value;
          reads = λ t rest at is. let m = c.reads t rest at is in (m.0, rw (other-parts follow) (ap (before (other follow ∷ [])) m.1), m.2);
        }

    first_some : (wrong count : ℕ) → SomeBytes (λ at t. onward (within_at t at 0 (table - 1)) (λ p next. then wrong count p next t))
    first_some wrong count = let small = other-small follow in some_number (then wrong count) 0 (table - 1) (other follow) (omega arith) zero-le (omega arith) (then_some wrong count)

    further-some : (count : ℕ) → SomeBytes (λ at t. further_at t at count table follow)
    unfolding further_at
    further-some zero = some-got []
    further-some (suc count) =
        let small = other-small follow in
        let c = prefactors-some count table in
        record {
          bytes = bytes_of (other follow) ++ c.bytes;
          value = (other follow ∷ []) ++ c.value;
          reads = λ t rest at is.
              let r = field_back t (c.bytes ++ rest) at 0 (table - 1) (other follow) (is ∙ append_assoc (bytes_of (other follow)) c.bytes rest) (omega arith) zero-le (omega arith) in
              let m = c.reads t rest r.0 r.2 in
              (m.0, rw r.1 (rw (other-parts follow) (ap (before (other follow ∷ [])) m.1)), m.2);
        }

    further-broken : (count : ℕ) (s : List ℕ) (at : ℕ) (r : Refusal) (p : ℕ) → further_at s at count table follow ≡ refused r p → Broken (λ t. further_at t at count table follow) s at r p
    unfolding further_at within_at
    further-broken zero s at r p e = absurd (clash (cc))
    further-broken (suc count) s at r p e = by (within_at s at 0 (table - 1)) refl e
      where
        X : List ℕ → Reading (List ℕ)
        X t = onward (within_at t at 0 (table - 1)) (λ q next. then at count q next t)

        on : (q next : ℕ) → within_at s at 0 (table - 1) ≡ field.Is q next → (b : Bool) → goes_on follow q ≡ b → cond b (refused BadRoll at) (before (q ∷ []) (prefactors_at s next count table)) ≡ refused r p → Broken X s at r p
        on q next is true goes e =
            let there : at ≡ p = cc in
            let number : BadRoll ≡ r = cc in
            let some = first_some at count in
            rw (← there, ← number)
            (record {
              leads = here;
              same = λ t alike x. ap (λ (y : Number). onward (opened y at 0 (table - 1)) (λ q next. then at count q next t)) x ∙ ap (λ (y : Field). onward y (λ q next. then at count q next t)) is ∙ rw goes refl;
              missing = λ t alike x. ap (λ (y : Number). onward (opened y at 0 (table - 1)) (λ q next. then at count q next t)) x;
              mend = some.bytes;
              value = some.value;
              mended = λ t rest alike is. some.reads t rest at is;
            })
        on q next is false goes e =
            broken-then (then at count) s at 0 (table - 1) q next r p is (off (goes_on follow q) goes)
          where
            off : (b : Bool) → b ≡ false → Broken (λ t. cond b (refused BadRoll at) (before (q ∷ []) (prefactors_at t next count table))) s next r p
            off true f = absurd (clash (cc))
            off false f =
                broken-made (λ qs. (q ∷ []) ++ qs) (λ t. prefactors_at t next count table) s next r p
                (prefactors-broken count table s next r p (made-refused (λ qs. (q ∷ []) ++ qs) (prefactors_at s next count table) r p e))

        by : (x : Field) → within_at s at 0 (table - 1) ≡ x → onward x (λ q next. then at count q next s) ≡ refused r p → Broken X s at r p
        by (field.Is q next) is e = on q next is (goes_on follow q) refl e
        by (Err why) is e =
            let number : why.refusal ≡ r = cc in
            let there : why.place ≡ p = cc in
            broken-number (then at count) s at 0 (table - 1) r p (rw (number, there) at is) (first_some at count)

two-entries : (k : Kind) → 2 ≤ table_of k
two-entries Overlap = omega arith
two-entries Kinetic = omega arith
two-entries Nuclear = omega arith
two-entries Moment = omega arith
two-entries Coulomb = omega arith

-- ---- a term

module _ (k : Kind) (l : ℕ) (earlier : List ℕ) where
  term_of : Front → List ℕ → Term
  term_of f ps = record { scale = f.scale; boys = f.boys; prefactors = take f.shared earlier ++ ps }

  rest_at : Front → ℕ → List ℕ → Reading Term
  rest_at f m t = and_then (further_at t m f.further (table_of k) (drop f.shared earlier)) (λ ps end. got (term_of f ps) end)

  rest-kept : (f : Front) (s : List ℕ) (m : ℕ) (u : Term) (end : ℕ) → rest_at f m s ≡ got u end → Kept (rest_at f m) s m end
  unfolding rest_at
  rest-kept f s m u end e =
      let follow = drop f.shared earlier in
      let got-all = made_got (term_of f) (further_at s m f.further (table_of k) follow) u end e in
      kept-made (term_of f) (λ t. further_at t m f.further (table_of k) follow) s m end (further-kept (table_of k) follow f.further s m got-all.0 end got-all.1)

  rest_some : (f : Front) → SomeBytes (rest_at f)
  unfolding rest_at
  rest_some f =
      let follow = drop f.shared earlier in
      some-made (term_of f) (λ at t. further_at t at f.further (table_of k) follow) (further-some (table_of k) follow (two-entries k) (table-within k) f.further)

  rest-broken : (f : Front) (s : List ℕ) (m : ℕ) (r : Refusal) (p : ℕ) → rest_at f m s ≡ refused r p → Broken (rest_at f m) s m r p
  unfolding rest_at
  rest-broken f s m r p e =
      let follow = drop f.shared earlier in
      broken-made (term_of f) (λ t. further_at t m f.further (table_of k) follow) s m r p
      (further-broken (table_of k) follow (two-entries k) (table-within k) f.further s m r p (made-refused (term_of f) (further_at s m f.further (table_of k) follow) r p e))

  pub term-kept2 : (s : List ℕ) (at : ℕ) (u : Term) (end : ℕ) → term_after s at k l earlier ≡ got u end → Kept (λ t. term_after t at k l earlier) s at end
  unfolding term_after rest_at term_of
  term-kept2 s at u end e =
      let x = and_then-is (front_at s at k l (length earlier)) (λ f m. rest_at f m s) u end e in
      kept_second (λ t. front_at t at k l (length earlier)) rest_at s at x.1 end x.0 x.2
      (front_kept k l (length earlier) s at x.0 x.1 x.2) (rest-kept x.0 s x.1 u end x.3)

  term-broken2 : (s : List ℕ) (at : ℕ) (r : Refusal) (p : ℕ) → term_after s at k l earlier ≡ refused r p → Broken (λ t. term_after t at k l earlier) s at r p
  unfolding term_after rest_at term_of
  term-broken2 s at r p e = by (front_at s at k l (length earlier)) refl e
    where
      by : (x : Reading Front) → front_at s at k l (length earlier) ≡ x → and_then x (λ f m. rest_at f m s) ≡ refused r p → Broken (λ t. and_then (front_at t at k l (length earlier)) (λ f m. rest_at f m t)) s at r p
      by (got f m) is e =
          broken-second (λ t. front_at t at k l (length earlier)) rest_at s at m r p f is (front_kept k l (length earlier) s at f m is) (rest-broken f s m r p e)
      by (refused q o) is e =
          let number : q ≡ r = cc in
          let there : o ≡ p = cc in
          broken-first (λ t. front_at t at k l (length earlier)) rest_at s at r p rest_some (front-broken k l (length earlier) s at r p (rw (number, there) at is))

-- ---- the header

pub header-kept2 : (s : List ℕ) (h : Header) (end : ℕ) → header_at2 s ≡ got h end → Kept header_at2 s 0 end
unfolding header_at2
header-kept2 s h end e = kept-onward (λ n next t. of_kind t next (kind_of (n - form_two))) s 0 form_two (form_two + number_of Coulomb) end h (λ n next is e. kind-kept (kind_of (n - form_two)) s next h end e) e

pub header-broken2 : (s : List ℕ) (r : Refusal) (p : ℕ) → header_at2 s ≡ refused r p → Broken header_at2 s 0 r p
unfolding header_at2
header-broken2 s r p e =
    broken-onward (λ n next t. of_kind t next (kind_of (n - form_two))) s 0 form_two (form_two + number_of Coulomb) r p (omega arith) (omega arith) (kind-some Overlap)
    (λ n next is e.
    let high = (taken s 0 form_two (form_two + number_of Coulomb) (within_at s 0 form_two (form_two + number_of Coulomb)) n next refl is).below in
    kind-broken (kind_of (n - form_two)) s next r p (known (n - form_two) (omega arith)) e) e

-- ---- the terms

-- a term that can always follow, and as many of it as are missing
abbrev plain : Term
plain = record { scale = 1; boys = 0; prefactors = [] }

plain_fits : (k : Kind) (l n : ℕ) → TermsFit k l (replicate n plain)
plain_fits k l zero = tt
plain_fits k l (suc n) = (record { scale-least = omega arith; scale = omega arith; boys = zero-le; count = zero-le; prefactors = tt }, plain_fits k l n)

plain-terms : (k : Kind) (l n : ℕ) (earlier t : List ℕ) (at : ℕ) → l ≤ most_l k → at ≤ length t → drop at t ≡ terms_bytes2 earlier (replicate n plain) → terms_after t at n k l earlier ≡ got (replicate n plain) (length t)
plain-terms k l n earlier t at small inside is = rw (length-replicate n plain) at (terms-back2 k l earlier (replicate n plain) t at small inside (plain_fits k l n) is)

terms-end2 : (left : ℕ) (k : Kind) (l : ℕ) (earlier s : List ℕ) (at : ℕ) (r : Refusal) (p : ℕ) → l ≤ most_l k → terms_after s at left k l earlier ≡ refused r p → Cut (λ t. terms_after t at left k l earlier) s at r p ⊎ Long (λ t. terms_after t at left k l earlier) s at r p
unfolding terms_after
terms-end2 zero k l earlier s at r p small e = by (eqb at (length s)) refl e
  where
    by : (b : Bool) → eqb at (length s) ≡ b → cond {A = Reading (List Term)} b (got [] at) (refused BadRoll at) ≡ refused r p → Cut (λ t. terms_after t at zero k l earlier) s at r p ⊎ Long (λ t. terms_after t at zero k l earlier) s at r p
    by true t e = absurd (clash (cc))
    by false f e =
        let there : at ≡ p = cc in
        let number : BadRoll ≡ r = cc in
        rw (← there, ← number)
        (inr (record {
          leads = here;
          value = [];
          reads = λ t alike long. simp (eq-eqb at (length t) (sym long));
          more = λ t alike long. simp (ne_eqb at (length t) long);
          follow = eqb-false at (length s) f;
        }))
terms-end2 (suc left) k l earlier s at r p small e = by (term_after s at k l earlier) refl e (λ old next. terms-end2 left k l old s next r p small)
  where
    X : List ℕ → Reading (List Term)
    X t = and_then (term_after t at k l earlier) (λ u next. before (u ∷ []) (terms_after t next left k l u.prefactors))

    by : (x : Reading Term) → term_after s at k l earlier ≡ x → and_then x (λ u next. before (u ∷ []) (terms_after s next left k l u.prefactors)) ≡ refused r p
        → ((old : List ℕ) (next : ℕ) → terms_after s next left k l old ≡ refused r p → Cut (λ t. terms_after t next left k l old) s next r p ⊎ Long (λ t. terms_after t next left k l old) s next r p)
        → Cut X s at r p ⊎ Long X s at r p
    by (got u next) is e rest =
        second-ends (λ t. term_after t at k l earlier) (λ u next t. before (u ∷ []) (terms_after t next left k l u.prefactors)) s at next r p u is (term-kept2 k l earlier s at u next is)
        (made_ends (λ us. (u ∷ []) ++ us) (λ t. terms_after t next left k l u.prefactors) s next r p (rest u.prefactors next (made-refused (λ us. (u ∷ []) ++ us) (terms_after s next left k l u.prefactors) r p e)))
    by (refused q o) is e rest =
        let number : q ≡ r = cc in
        let there : o ≡ p = cc in
        let b = term-broken2 k l earlier s at r p (rw (number, there) at is) in
        let old = b.value.prefactors in
        inl (record {
          leads = b.leads;
          same = λ t alike e. ap (λ (x : Reading Term). and_then x (λ u next. before (u ∷ []) (terms_after t next left k l u.prefactors))) (b.same t alike e);
          missing = λ t alike e. ap (λ (x : Reading Term). and_then x (λ u next. before (u ∷ []) (terms_after t next left k l u.prefactors))) (b.missing t alike e);
          mend = b.mend ++ terms_bytes2 old (replicate left plain);
          value = (b.value ∷ []) ++ replicate left plain;
          mended = λ t alike is.
              let m = b.mended t (terms_bytes2 old (replicate left plain)) alike is in
              ap (λ (x : Reading Term). and_then x (λ u next. before (u ∷ []) (terms_after t next left k l u.prefactors))) m.1
              ∙ ap (before (b.value ∷ [])) (plain-terms k l left old t m.0 small (term-inside2 k l earlier t at b.value m.0 m.1) m.2);
        })

-- ---- the roll

pub roll-end2 : (s : List ℕ) (r : Refusal) (p : ℕ) → roll_at2 s ≡ refused r p → Cut roll_at2 s 0 r p ⊎ Long roll_at2 s 0 r p
unfolding roll_at2
roll-end2 s r p e = by (header_at2 s) refl e
  where
    made : Header → List Term → Roll
    made h ts = record { kind = h.kind; orders = h.orders; terms = ts }

    terms : List ℕ → Header → ℕ → Reading Roll
    terms t h next = and_then (terms_after t next h.terms h.kind (total h.orders) []) (λ ts end. got (record { kind = h.kind; orders = h.orders; terms = ts }) end)

    by : (x : Reading Header) → header_at2 s ≡ x → and_then x (terms s) ≡ refused r p → Cut roll_at2 s 0 r p ⊎ Long roll_at2 s 0 r p
    by (got h next) is e =
        second-ends header_at2 (λ h next t. terms t h next) s 0 next r p h is (header-kept2 s h next is)
        (made_ends (made h) (λ t. terms_after t next h.terms h.kind (total h.orders) []) s next r p
        (terms-end2 h.terms h.kind (total h.orders) [] s next r p (header-most2 s h next is) (made-refused (made h) (terms_after s next h.terms h.kind (total h.orders) []) r p e)))
    by (refused q o) is e =
        let number : q ≡ r = cc in
        let there : o ≡ p = cc in
        let b = header-broken2 s r p (rw (number, there) at is) in
        let h = b.value in
        inl (record {
          leads = b.leads;
          same = λ t alike e. ap (λ (x : Reading Header). and_then x (terms t)) (b.same t alike e);
          missing = λ t alike e. ap (λ (x : Reading Header). and_then x (terms t)) (b.missing t alike e);
          mend = b.mend ++ terms_bytes2 [] (replicate h.terms plain);
          value = made h (replicate h.terms plain);
          mended = λ t alike is.
              let m = b.mended t (terms_bytes2 [] (replicate h.terms plain)) alike is in
              ap (λ (x : Reading Header). and_then x (terms t)) m.1
              ∙ ap (λ (x : Reading (List Term)). and_then x (λ ts end. got (made h ts) end)) (plain-terms h.kind (total h.orders) h.terms [] t m.0 (header-most2 t h m.0 m.1) (header-inside2 t h m.0 m.1) m.2);
        })

-- the place of a refusal lies within the roll
pub place-inside2 : (s : List ℕ) (r : Refusal) (p : ℕ) → roll_at2 s ≡ refused r p → p ≤ length s
place-inside2 s r p e = by (roll-end2 s r p e)
  where
    by : Cut roll_at2 s 0 r p ⊎ Long roll_at2 s 0 r p → p ≤ length s
    by (inl b) = leads-inside {at = 0} zero-le b.leads
    by (inr b) = leads-inside {at = 0} zero-le b.leads
