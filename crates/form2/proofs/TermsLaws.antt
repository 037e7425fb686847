-- The functions of src/terms.rt: a term's numbers, its further prefactors in their places, and both together, a law for each way out.
use Prim.Native.Nat.{ℕ, suc, ◌+◌, ◌-◌, ◌≤◌, ◌<◌}
use mathlib.Core.Path.{◌≡◌, refl, sym, ap, ap₂, ◌∙◌}
use mathlib.Core.Bool.{Bool, true, false, cond, ◌&&◌}
use mathlib.Core.List.{List, [], ◌∷◌, ◌++◌}
use native.Mathlib.Omega.{arith}
use mir.Syntax.{w8}
use mir.Val.{Fits}
use native.Mathlib.Numerals.{add-one}
use borrow.Author.Tests.{ltb-true, ltb-false}
use lib.Dec.{ltb, eqb}
use lib.ListN.{length, get_or, set, take, drop, length-append, length-take, drop_of_length-le, take-append-drop}
use lib.Seq.{sets, drop-cons, get_or-take, length-take-le, take-take, sets-eq}
use Rattle.kind.specs.Limits.{most_l·any, most_scale}
use Rattle.kind.specs.Kinds.{table_of, most_prefactors}
use Rattle.kind.specs.declared.Kind.{Kind}
use Rattle.kind.proofs.Within.{some-entries, table-within}
use Rattle.laws.proofs.Cases.{clash}
use Rattle.laws.proofs.Lists.{sets-append}
use Rattle.term.specs.Terms.{Term}
use Rattle.roll.specs.Field.{Field}
use Rattle.roll.specs.Field as field
use Rattle.roll.specs.Reading.{Reading, got, refused, onward, and_then, before, within_at, prefactors_at, most_boys}
use Rattle.roll.proofs.FieldLaws.{taken-below}
use Rattle.roll.proofs.TermsLaws.{few-prefactors}
use Rattle.form2.specs.declared.terms.ReadFront.{ReadFront}
use Rattle.form2.specs.declared.terms.ReadAfter.{ReadAfter}
use Rattle.form2.specs.Reading.{Front, further_count_at, shared_at, boys_at2, front_at, goes_on, further_at, term_after}
use Rattle.form2.specs.inner.Held.{held_front, found_from, places_from, AfterMay, AfterTold, MoreMay, MoreTold}
use Rattle.form2.proofs.Inside.{front_read}
use Rattle.std.specs.Prelude.{Result, Ok, Err}
use Rattle.kind.specs.declared.refusals.Fault.{Fault}
use Rattle.kind.proofs.Faults.{err-is}
use Rattle.roll.specs.Field.{fault}
use Rattle.kind.specs.declared.refusals.Refusal.TheVariants.{BadRoll}

-- ---- the front

pub shared-few : (k : Kind) (l longest : ℕ) (s : List ℕ) (at most : ℕ) (x : Field) (n next : ℕ) → AfterMay k l longest → most ≡ most_prefactors k l → x ≡ within_at s at 0 longest → x ≡ field.Is n next → n ≤ most
shared-few k l longest s at most x n next may limit is e = omega (arith, may.few, taken-below s at 0 longest x n next is e)

pub front-read : (k : Kind) (l longest scale : ℕ) (s : List ℕ) (at high most : ℕ) (x y z : Field) (boys a shared b further next : ℕ) → high ≡ most_boys k l → x ≡ within_at s at 0 high → x ≡ field.Is boys a → y ≡ within_at s a 0 longest → y ≡ field.Is shared b → most ≡ most_prefactors k l → z ≡ within_at s b 0 (most - shared) → z ≡ field.Is further next → ◌≡◌ {A = Result ReadFront Fault} (Ok (record { scale = scale; boys = boys; shared = shared; further = further; next = next })) (held_front (boys_at2 s at k l longest scale))
unfolding boys_at2 shared_at further_count_at
front-read k l longest scale s at high most x y z boys a shared b further next h is e then f limit last g = rw (← h, sym is ∙ e, sym then ∙ f, ← limit, sym last ∙ g)

pub count-unread : (k : Kind) (l longest scale : ℕ) (s : List ℕ) (at high most : ℕ) (x y z : Field) (boys a shared b : ℕ) (why : Fault) → high ≡ most_boys k l → x ≡ within_at s at 0 high → x ≡ field.Is boys a → y ≡ within_at s a 0 longest → y ≡ field.Is shared b → most ≡ most_prefactors k l → z ≡ within_at s b 0 (most - shared) → z ≡ Err why → Err why ≡ held_front (boys_at2 s at k l longest scale)
unfolding boys_at2 shared_at further_count_at
count-unread k l longest scale s at high most x y z boys a shared b why h is e then f limit last g = rw (← h, sym is ∙ e, sym then ∙ f, ← limit, sym last ∙ g)

pub shared-unread : (k : Kind) (l longest scale : ℕ) (s : List ℕ) (at high : ℕ) (x y : Field) (boys a : ℕ) (why : Fault) → high ≡ most_boys k l → x ≡ within_at s at 0 high → x ≡ field.Is boys a → y ≡ within_at s a 0 longest → y ≡ Err why → Err why ≡ held_front (boys_at2 s at k l longest scale)
unfolding boys_at2 shared_at
shared-unread k l longest scale s at high x y boys a why h is e then f = rw (← h, sym is ∙ e, sym then ∙ f)

pub boys-unread : (k : Kind) (l longest scale : ℕ) (s : List ℕ) (at high : ℕ) (x : Field) (why : Fault) → high ≡ most_boys k l → x ≡ within_at s at 0 high → x ≡ Err why → Err why ≡ held_front (boys_at2 s at k l longest scale)
unfolding boys_at2
boys-unread k l longest scale s at high x why h is e = rw (← h, sym is ∙ e)

pub scale-read : (k : Kind) (l longest : ℕ) (s : List ℕ) (at : ℕ) (x : Field) (scale next : ℕ) (y : Result ReadFront Fault) → x ≡ within_at s at 1 most_scale → x ≡ field.Is scale next → y ≡ held_front (boys_at2 s next k l longest scale) → y ≡ held_front (front_at s at k l longest)
unfolding front_at
scale-read k l longest s at x scale next y is e answer = answer ∙ rw (sym is ∙ e)

pub scale-unread : (k : Kind) (l longest : ℕ) (s : List ℕ) (at : ℕ) (x : Field) (why : Fault) → x ≡ within_at s at 1 most_scale → x ≡ Err why → Err why ≡ held_front (front_at s at k l longest)
unfolding front_at
scale-unread k l longest s at x why is e = rw (sym is ∙ e)

-- ---- prefactors in their places

-- one in its place, and the rest behind it
found-one : (n p : ℕ) (r : Reading (List ℕ)) → found_from n (before (p ∷ []) r) ≡ found_from (n + 1) r
found-one n p (got ps next) = let count : n + length (p ∷ ps) ≡ n + 1 + length ps = omega arith in ap (λ (m : ℕ). field.Is m next) count
found-one n p (refused r place) = refl

places-one : (held : List ℕ) (n p : ℕ) (left : List ℕ) (r : Reading (List ℕ)) → places_from held n left (before (p ∷ []) r) ≡ places_from (set held n p) (n + 1) left r
places-one held n p left (got ps next) = rw (add-one n)
places-one held n p left (refused r place) = refl

-- the same told from one place further on
pub told-behind : (values : List ℕ) (from p : ℕ) (x : Reading (List ℕ)) (y : Field) (after : List ℕ) → MoreTold (set values from p) (from + 1) x y after → MoreTold values from (before (p ∷ []) x) y after
told-behind values from p x y after m = record { found = m.found ∙ sym (found-one from p x); places = m.places ∙ sym (places-one values from p after x) }

-- a refusal, whatever is left in the places
told_none : (values : List ℕ) (from : ℕ) (x : Reading (List ℕ)) (why : Fault) (after : List ℕ) → x ≡ refused why.refusal why.place → MoreTold values from x (Err why) after
told_none values from x why after e = rw e (record { found = refl; places = refl })

pub record Placing (s : List ℕ) (at : ℕ) (values : List ℕ) (from count table : ℕ) (held : List ℕ) (place i : ℕ) : Type 0 where
  pub inside : i ≤ count
  pub told : (y : Field) (after : List ℕ) → MoreTold held (from + i) (prefactors_at s place (count - i) table) y after → MoreTold values from (prefactors_at s at count table) y after

turn : (s : List ℕ) (place count table i : ℕ) (x : Field) → i < count → x ≡ within_at s place 0 (table - 1) → prefactors_at s place (count - i) table ≡ onward x (λ p next. before (p ∷ []) (prefactors_at s next (count - (i + 1)) table))
unfolding prefactors_at
turn s place count table i x less is = let fewer : count - i ≡ suc (count - (i + 1)) = omega arith in rw (fewer, is)

pub placing-more : (s : List ℕ) (at : ℕ) (values : List ℕ) (from count table : ℕ) (held : List ℕ) (place i : ℕ) (x : Field) (p next : ℕ) → Placing s at values from count table held place i → i < count → x ≡ within_at s place 0 (table - 1) → x ≡ field.Is p next → Placing s at values from count table (set held (from + i) p) next (i + 1)
placing-more s at values from count table held place i x p next f less is e =
    let rest : prefactors_at s place (count - i) table ≡ before (p ∷ []) (prefactors_at s next (count - (i + 1)) table) = rw e at (turn s place count table i x less is) in
    let behind : from + (i + 1) ≡ from + i + 1 = omega arith in
    record {
      inside = omega arith;
      told = λ y after m. f.told y after (rw rest (told-behind held (from + i) p (prefactors_at s next (count - (i + 1)) table) y after (rw behind at m)));
    }

pub placing-refused : (s : List ℕ) (at : ℕ) (values : List ℕ) (from count table : ℕ) (held : List ℕ) (place i : ℕ) (x : Field) (why : Fault) → Placing s at values from count table held place i → i < count → x ≡ within_at s place 0 (table - 1) → x ≡ Err why → MoreTold values from (prefactors_at s at count table) (Err why) held
placing-refused s at values from count table held place i x why f less is e =
    let rest : prefactors_at s place (count - i) table ≡ refused why.refusal why.place = rw e at (turn s place count table i x less is) in
    f.told (Err why) held (told_none held (from + i) (prefactors_at s place (count - i) table) why held rest)

no_more : (s : List ℕ) (place table n : ℕ) → n ≡ 0 → prefactors_at s place n table ≡ got [] place
unfolding prefactors_at
no_more s place table n none = rw none

-- nothing more
told-end : (values : List ℕ) (from n place : ℕ) (x : Reading (List ℕ)) → x ≡ got [] place → n ≡ from → MoreTold values from x (field.Is n place) values
told-end values from n place x e same = let sum : n ≡ from + 0 = omega arith in rw e (record { found = ap (λ (m : ℕ). field.Is m place) sum; places = refl })

pub placing-done : (s : List ℕ) (at : ℕ) (values : List ℕ) (from count table : ℕ) (held : List ℕ) (place i : ℕ) → Placing s at values from count table held place i → count ≤ i → MoreTold values from (prefactors_at s at count table) (field.Is (from + count) place) held
placing-done s at values from count table held place i f done =
    f.told (field.Is (from + count) place) held
    (told-end held (from + i) (from + count) place (prefactors_at s place (count - i) table) (no_more s place table (count - i) (omega arith)) (omega (arith, f.inside)))

-- a prefactor is a byte
pub prefactor-fits : (from left table : ℕ) (s : List ℕ) (at : ℕ) (x : Field) (p next : ℕ) → MoreMay from left table → x ≡ within_at s at 0 (table - 1) → x ≡ field.Is p next → Fits w8 p
prefactor-fits from left table s at x p next may is e = omega (arith, may.most, taken-below s at 0 (table - 1) x p next is e)

-- ---- the further prefactors

goes_none : (values : List ℕ) (count from p : ℕ) → count ≤ from → goes_on (drop from (take count values)) p ≡ false
goes_none values count from p past =
    let none : drop from (take count values) ≡ [] = drop_of_length-le (take count values) {i = from} (omega (arith, length-take count values)) in
    rw none

goes-is : (values : List ℕ) (count from p there : ℕ) → length values ≡ most_l·any → count ≤ most_l·any → from < count → there ≡ get_or values from 0 → goes_on (drop from (take count values)) p ≡ eqb there p
goes-is values count from p there long few inside is =
    let room : from < length (take count values) = omega (arith, length-take-le count values (omega arith)) in
    let same : get_or (take count values) from 0 ≡ there = get_or-take count values from 0 inside ∙ sym is in
    rw (drop-cons (take count values) from 0 room) (ap (λ (q : ℕ). eqb q p) same)

-- whether what stands behind the shared ones is what follows in the term before
pub follows : (values : List ℕ) (count from p there : ℕ) → length values ≡ most_l·any → count ≤ most_l·any → there ≡ get_or values from 0 → goes_on (drop from (take count values)) p ≡ (ltb from count && eqb there p)
follows values count from p there long few is = by (ltb from count) refl
  where
    by : (b : Bool) → ltb from count ≡ b → goes_on (drop from (take count values)) p ≡ (b && eqb there p)
    by true e = goes-is values count from p there long few (ltb-true from count e) is
    by false e = goes_none values count from p (ltb-false from count e)

module _ (s : List ℕ) (at : ℕ) (values : List ℕ) (from left table count : ℕ) where
  pub further-none : left ≡ 0 → MoreTold values from (further_at s at left table (drop from (take count values))) (field.Is from at) values
  unfolding further_at
  further-none none = rw none (record { found = ap (λ (n : ℕ). field.Is n at) (omega arith); places = refl })

  first : (x : Field) → (left ≡ 0 → ⊥) → x ≡ within_at s at 0 (table - 1) → further_at s at left table (drop from (take count values)) ≡ onward x (λ p next. cond (goes_on (drop from (take count values)) p) (refused BadRoll at) (before (p ∷ []) (prefactors_at s next (left - 1) table)))
  unfolding further_at
  first x some is = let one : left ≡ suc (left - 1) = omega arith in ap (λ (n : ℕ). further_at s at n table (drop from (take count values))) one ∙ rw is

  pub further-unread : (x : Field) (why : Fault) → (left ≡ 0 → ⊥) → x ≡ within_at s at 0 (table - 1) → x ≡ Err why → MoreTold values from (further_at s at left table (drop from (take count values))) (Err why) values
  further-unread x why some is e =
      told_none values from (further_at s at left table (drop from (take count values))) why values (rw e at (first x some is))

  module _ (long : length values ≡ most_l·any) (few : count ≤ most_l·any) (x : Field) (p next : ℕ) (some : left ≡ 0 → ⊥) (is : x ≡ within_at s at 0 (table - 1)) (e : x ≡ field.Is p next) (there : ℕ) (stands : there ≡ get_or values from 0) (t : Bool) (goes : t ≡ (ltb from count && eqb there p)) where
    one : (b : Bool) → t ≡ b → further_at s at left table (drop from (take count values)) ≡ cond b (refused BadRoll at) (before (p ∷ []) (prefactors_at s next (left - 1) table))
    one b so =
        let all : further_at s at left table (drop from (take count values)) ≡ cond (goes_on (drop from (take count values)) p) (refused BadRoll at) (before (p ∷ []) (prefactors_at s next (left - 1) table)) = rw e at (first x some is) in
        rw (follows values count from p there long few stands ∙ sym goes ∙ so) at all

    pub further-goes : t ≡ true → MoreTold values from (further_at s at left table (drop from (take count values))) (field.Refused BadRoll at) values
    further-goes on = told_none values from (further_at s at left table (drop from (take count values))) (fault BadRoll at) values (one true on)

    pub further-parts : (y : Field) (after : List ℕ) → t ≡ false → MoreTold (set values from p) (from + 1) (prefactors_at s next (left - 1) table) y after → MoreTold values from (further_at s at left table (drop from (take count values))) y after
    further-parts y after off m = rw (one false off) (told-behind values from p (prefactors_at s next (left - 1) table) y after m)

pub more-may : (from left table : ℕ) → MoreMay from left table → (left ≡ 0 → ⊥) → MoreMay (from + 1) (left - 1) table
more-may from left table may some = record { room = omega (arith, may.room); some = may.some; most = may.most }

-- ---- a term

-- a term of prefactors that were read
abbrev pub with_more : ℕ → ℕ → Field → Result ReadAfter Fault
with_more scale boys (field.Is n end) = Ok (record { scale = scale; boys = boys; count = n; end = end })
with_more scale boys (Err why) = Err why

-- a list's own beginning, put down at its front
pub sets-own : (values : List ℕ) (n : ℕ) → n ≤ length values → sets values 0 (take n values) ≡ values
sets-own values n inside =
    let long = length-take-le n values inside in
    let end : 0 + length (take n values) ≡ n = omega arith in
    sets-eq (take n values) values 0 (omega arith)
    ∙ ap (λ (m : ℕ). take n values ++ drop m values) end
    ∙ take-append-drop n values

-- behind what is shared the further ones stand where they are put
behind-shared : (values : List ℕ) (count n : ℕ) (ps : List ℕ) → count ≤ length values → n ≤ count → (sets values n ps ≡ sets values 0 (take n (take count values) ++ ps)) × (n + length ps ≡ length (take n (take count values) ++ ps))
behind-shared values count n ps room inside =
    let same : take n (take count values) ≡ take n values = take-take n count values inside in
    let long : length (take n values) ≡ n = length-take-le n values (omega arith) in
    let zero-add : 0 + length (take n values) ≡ n = omega arith in (
      sym (ap (λ (l : List ℕ). sets values 0 (l ++ ps)) same
          ∙ sets-append values 0 (take n values) ps
          ∙ ap₂ (λ (l : List ℕ) (m : ℕ). sets l m ps) (sets-own values n (omega arith)) zero-add),
      rw same (omega (arith, length-append (take n values) ps, long)),
    )

after-of : (values : List ℕ) (count scale boys n : ℕ) (r : Reading (List ℕ)) (found : Field) (after : List ℕ) → count ≤ length values → n ≤ count → MoreTold values n r found after → AfterTold values (and_then r (λ ps end. got (record { scale = scale; boys = boys; prefactors = take n (take count values) ++ ps }) end)) (with_more scale boys found) after
after-of values count scale boys n (got ps next) found after room inside m =
    let b = behind-shared values count n ps room inside in
    record {
      read = ap (with_more scale boys) m.found ∙ ap (λ (m : ℕ). Ok (record { scale = scale; boys = boys; count = m; end = next })) b.1;
      places = m.places ∙ b.0;
    }
after-of values count scale boys n (refused r place) found after room inside m = record { read = ap (with_more scale boys) m.found; places = refl }

pub after-few : (k : Kind) (l count : ℕ) → AfterMay k l count → count ≤ most_l·any
after-few k l count may = omega (arith, may.few, few-prefactors k l may.small)

-- what was read of a term and of its front, as the code holds it
abbrev pub after_as : Term → ℕ → ReadAfter
after_as t end = record { scale = t.scale; boys = t.boys; count = length t.prefactors; end = end }

abbrev pub front_as : Front → ℕ → ReadFront
front_as f next = record { scale = f.scale; boys = f.boys; shared = f.shared; further = f.further; next = next }

module _ (k : Kind) (l : ℕ) (s : List ℕ) (at : ℕ) (values : List ℕ) (count : ℕ) (x : Result ReadFront Fault) (may : AfterMay k l count) (is : x ≡ held_front (front_at s at k l count)) where
  few-count : count ≤ most_l·any
  few-count = after-few k l count may

  pub after-may : (read : ReadFront) (table : ℕ) → x ≡ Ok read → table ≡ table_of k → MoreMay read.shared read.further table
  after-may read table ok size = by (front_at s at k l count) refl
    where
      by : (r : Reading Front) → front_at s at k l count ≡ r → MoreMay read.shared read.further table
      by (got f m) front =
          let x-is : Ok read ≡ held_front (got f m) = sym ok ∙ is ∙ ap held_front front in
          let same : read ≡ front_as f m = cc in
          let shared : read.shared ≡ f.shared = ap (λ (x : ReadFront). x.shared) same in
          let further : read.further ≡ f.further = ap (λ (x : ReadFront). x.further) same in
          let r = front_read k l count s at f m front in
          let a = r.shared.below in
          let b = r.further.below in
          let few = few-prefactors k l may.small in
          let most = may.few in
          record { room = omega arith; some = omega (arith, size, some-entries k); most = omega (arith, size, table-within k) }
      by (refused r place) front =
          let x-is : Ok read ≡ held_front (refused r place) = sym ok ∙ is ∙ ap held_front front in
          absurd (clash (cc))

  module _ (long : length values ≡ most_l·any) where
    counted : length (take count values) ≡ count
    counted = length-take-le count values (omega (arith, few-count))

    term_is : (r : Reading Front) → front_at s at k l count ≡ r → term_after s at k l (take count values) ≡ and_then r (λ f m. and_then (further_at s m f.further (table_of k) (drop f.shared (take count values))) (λ ps end. got (record { scale = f.scale; boys = f.boys; prefactors = take f.shared (take count values) ++ ps }) end))
    unfolding term_after
    term_is r e = rw (counted, e)

    pub after-unread : (why : Fault) → x ≡ Err why → AfterTold values (term_after s at k l (take count values)) (Err why) values
    after-unread why err = by (front_at s at k l count) refl
      where
        by : (z : Reading Front) → front_at s at k l count ≡ z → AfterTold values (term_after s at k l (take count values)) (Err why) values
        by (got f m) front =
            let x-is : held_front (got f m) ≡ Err why = sym (ap held_front front) ∙ sym is ∙ err in
            absurd (clash (cc))
        by (refused q o) front =
            let x-is : held_front (refused q o) ≡ Err why = sym (ap held_front front) ∙ sym is ∙ err in
            let same : fault q o ≡ why = err-is (fault q o) why x-is in
            rw (term_is (refused q o) front, ← same) (record { read = refl; places = refl })

    pub after_read : (read : ReadFront) (table : ℕ) (found : Field) (after : List ℕ) (y : Result ReadAfter Fault) → x ≡ Ok read → table ≡ table_of k → MoreTold values read.shared (further_at s read.next read.further table (drop read.shared (take count values))) found after → y ≡ with_more read.scale read.boys found → AfterTold values (term_after s at k l (take count values)) y after
    after_read read table found after y ok size told answer = by (front_at s at k l count) refl
      where
        by : (z : Reading Front) → front_at s at k l count ≡ z → AfterTold values (term_after s at k l (take count values)) y after
        by (got f m) front =
            let x-is : Ok read ≡ held_front (got f m) = sym ok ∙ is ∙ ap held_front front in
            let same : read ≡ front_as f m = cc in
            let r = front_read k l count s at f m front in
            let told_is : MoreTold values f.shared (further_at s m f.further (table_of k) (drop f.shared (take count values))) found after = rw (same, size) at told in
            let answer-is : y ≡ with_more f.scale f.boys found = rw same at answer in
            rw (answer-is, term_is (got f m) front)
            (after-of values count f.scale f.boys f.shared (further_at s m f.further (table_of k) (drop f.shared (take count values))) found after (omega (arith, few-count)) r.shared.below told_is)
        by (refused q o) front =
            let x-is : Ok read ≡ held_front (refused q o) = sym ok ∙ is ∙ ap held_front front in
            absurd (clash (cc))

    pub after_more : (read : ReadFront) (table : ℕ) (found : Field) (after : List ℕ) (n end : ℕ) → x ≡ Ok read → table ≡ table_of k → MoreTold values read.shared (further_at s read.next read.further table (drop read.shared (take count values))) found after → found ≡ field.Is n end → AfterTold values (term_after s at k l (take count values)) (Ok (record { scale = read.scale; boys = read.boys; count = n; end = end })) after
    after_more read table found after n end ok size told e = after_read read table found after (with_more read.scale read.boys (field.Is n end)) ok size told (sym (ap (with_more read.scale read.boys) e))

    pub after-unmore : (read : ReadFront) (table : ℕ) (found : Field) (after : List ℕ) (why : Fault) → x ≡ Ok read → table ≡ table_of k → MoreTold values read.shared (further_at s read.next read.further table (drop read.shared (take count values))) found after → found ≡ Err why → AfterTold values (term_after s at k l (take count values)) (Err why) after
    after-unmore read table found after why ok size told e = after_read read table found after (Err why) ok size told (sym (ap (with_more read.scale read.boys) e))
