-- The functions of src/cursor.rt: the term before looked at, a term handed out, and a step, a law for each way out.
use Prim.Native.Nat.{ℕ, ◌+◌, ◌-◌, ◌≤◌, ◌<◌}
use mathlib.Core.Path.{◌≡◌, refl, sym, ap, ◌∙◌}
use mathlib.Core.Bool.{Bool, true, false, ◌||◌}
use mathlib.Core.List.{List, [], ◌++◌}
use native.Mathlib.Omega.{arith}
use native.Mathlib.Numerals.{add-one}
use borrow.Author.Tests.{lt-ltb, le-ltb, ne_eqb, le-leb, lt-leb, ltb-false}
use lib.Dec.{ltb, leb}
use lib.ListN.{length, get_or, set, take, drop, replicate, length-take, drop_of_length-le}
use lib.Seq.{sets, drop-cons, get_or-take, length-take-le, take_at, sets-eq}
use Rattle.kind.specs.Limits.{most_l·any}
use Rattle.kind.specs.Kinds.{kind_of, table_of, most_l, most_prefactors}
use Rattle.kind.specs.declared.Kind.{Kind}
use Rattle.kind.proofs.Within.{l-within}
use Rattle.laws.proofs.Cases.{clash, or-false-both}
use Rattle.term.specs.Terms.{Term, held}
use Rattle.roll.specs.declared.cursor.Cursor.{Cursor}
use Rattle.roll.specs.Reading.{Reading, got, refused, most_boys}
use Rattle.roll.proofs.Back.{most-boys}
use Rattle.roll.proofs.Filling.{Filled}
use Rattle.roll.proofs.TermsLaws.{few-prefactors, prefactors-length}
use Rattle.form2.specs.declared.cursor.Cursor2.{Cursor2}
use Rattle.form2.specs.declared.terms.ReadAfter.{ReadAfter}
use Rattle.form2.specs.Reading.{term_after}
use Rattle.form2.specs.Cursor.{Stepped2, refused_step2, stepped_after, end_or2, some_above, forged_earlier, step_as2, step2_of}
use Rattle.form2.specs.inner.Held.{held_after, places_after, AfterMay, AfterTold, cleared_of, stepped_over2, StepMay}
use Rattle.form2.proofs.Inside.{front_read, further-read, term-read2}
use Rattle.form2.proofs.TermsLaws.{after_as}
use Rattle.std.specs.Prelude.{Option, Some, None, Result, Ok}
use Rattle.kind.specs.declared.refusals.Fault.{Fault}
use Rattle.kind.specs.declared.refusals.Refusal.TheVariants.{BadRoll}

-- ---- the end

pub end-not2 : (s : List ℕ) (place : ℕ) → (place ≡ length s → ⊥) → refused_step2 BadRoll place ≡ end_or2 s place
end-not2 s place more = simp (ne_eqb place (length s) more)

-- ---- the term before

-- from a place on, as of the whole
pub record Above (table : ℕ) (values : List ℕ) (count i : ℕ) : Type 0 where
  pub inside : i ≤ count
  pub same : some_above table (drop i (take count values)) ≡ some_above table (take count values)

above-turn : (table : ℕ) (values : List ℕ) (count i b : ℕ) → length values ≡ most_l·any → count ≤ most_l·any → i < count → b ≡ get_or values i 0 → some_above table (drop i (take count values)) ≡ (leb table b || some_above table (drop (i + 1) (take count values)))
unfolding some_above
above-turn table values count i b long few inside is =
    let room : i < length (take count values) = omega (arith, length-take-le count values (omega arith)) in
    let same : get_or (take count values) i 0 ≡ b = get_or-take count values i 0 inside ∙ sym is in
    rw (drop-cons (take count values) i 0 room, same, add-one i)

pub above-found : (table : ℕ) (values : List ℕ) (count i b : ℕ) → length values ≡ most_l·any → count ≤ most_l·any → Above table values count i → i < count → b ≡ get_or values i 0 → table ≤ b → true ≡ some_above table (take count values)
above-found table values count i b long few a inside is high = sym (sym a.same ∙ above-turn table values count i b long few inside is ∙ rw (le-leb table b high))

pub above_more : (table : ℕ) (values : List ℕ) (count i b : ℕ) → length values ≡ most_l·any → count ≤ most_l·any → Above table values count i → i < count → b ≡ get_or values i 0 → b < table → Above table values count (i + 1)
above_more table values count i b long few a inside is low =
    record { inside = omega arith; same = sym (above-turn table values count i b long few inside is ∙ rw (lt-leb table b low)) ∙ a.same }

pub above-done : (table : ℕ) (values : List ℕ) (count i : ℕ) → Above table values count i → count ≤ i → false ≡ some_above table (take count values)
unfolding some_above
above-done table values count i a done =
    let none : drop i (take count values) ≡ [] = drop_of_length-le (take count values) {i = i} (omega (arith, length-take count values)) in
    rw none at a.same

pub forged-many : (k : Kind) (l count : ℕ) (values : List ℕ) (most : ℕ) → most ≡ most_prefactors k l → most < count → true ≡ forged_earlier k l count values
unfolding forged_earlier
forged-many k l count values most is many = rw (lt-ltb (most_prefactors k l) count (omega arith))

pub forged-some : (k : Kind) (l count : ℕ) (values : List ℕ) (most table : ℕ) (t : Bool) → most ≡ most_prefactors k l → count ≤ most → table ≡ table_of k → t ≡ some_above table (take count values) → t ≡ forged_earlier k l count values
unfolding forged_earlier
forged-some k l count values most table t is few size answer = rw (le-ltb (most_prefactors k l) count (omega arith)) (answer ∙ ap (λ (n : ℕ). some_above n (take count values)) size)

-- ---- a term handed out

pub record Clearing (values : List ℕ) (count : ℕ) (held : List ℕ) (i : ℕ) : Type 0 where
  pub inside : i ≤ count
  pub filled : Filled most_l·any held i
  pub same : take i held ≡ take i values

pub clearing-done : (values : List ℕ) (count : ℕ) (held : List ℕ) (i : ℕ) → Clearing values count held i → count ≤ i → held ≡ cleared_of values count
unfolding cleared_of
clearing-done values count held i c done =
    let all : i ≡ count = omega (arith, c.inside) in
    c.filled.zeros ∙ ap (λ (l : List ℕ). l ++ replicate (most_l·any - i) 0) c.same ∙ ap (λ (n : ℕ). take n values ++ replicate (most_l·any - n) 0) all

-- a term has no more prefactors than it may have, and its Boys order is within its limit
pub term-few2 : (k : Kind) (l : ℕ) (earlier s : List ℕ) (at : ℕ) (t : Term) (next : ℕ) → length earlier ≤ most_prefactors k l → term_after s at k l earlier ≡ got t next → (length t.prefactors ≤ most_prefactors k l) × (t.boys ≤ most_boys k l)
term-few2 k l earlier s at t next most e =
    let r = term-read2 k l earlier s at t next e in
    let f = r.front in
    let n = f.shared in
    let x = front_read k l (length earlier) s at f r.place r.numbers in
    let y = further-read f.further (table_of k) (drop n earlier) s r.place r.further next r.reads in
    let long : length r.further ≡ f.further = prefactors-length f.further (table_of k) s r.place r.further next y.0 in
    let within = x.shared.below in
    let few = x.further.below in
    rw r.is (omega (arith, lib.ListN.length-append (take n earlier) r.further, length-take-le n earlier within, long), x.boys.below)

module _ (k : Kind) (l : ℕ) (s : List ℕ) (at : ℕ) (values : List ℕ) (count : ℕ) (long : length values ≡ most_l·any) (may : AfterMay k l count) where
  earlier-few : length (take count values) ≤ most_prefactors k l
  earlier-few = omega (arith, length-take count values, may.few)

  few-held : (t : Term) (next : ℕ) → term_after s at k l (take count values) ≡ got t next → length t.prefactors ≤ most_l·any
  few-held t next e = let few = term-few2 k l (take count values) s at t next earlier-few e in omega (arith, few.0, few-prefactors k l may.small)

  pub step-may : (c : Cursor) (x : Result ReadAfter Fault) (read : ReadAfter) → x ≡ held_after (term_after s at k l (take count values)) → x ≡ Ok read → (c.left ≡ 0 → ⊥) → StepMay c read
  step-may c x read is ok some = by (term_after s at k l (take count values)) refl
    where
      by : (y : Reading Term) → term_after s at k l (take count values) ≡ y → StepMay c read
      by (got t next) e =
          let read-is : Ok read ≡ held_after (got t next) = sym ok ∙ is ∙ ap held_after e in
          let same : read ≡ after_as t next = cc in
          let few = term-few2 k l (take count values) s at t next earlier-few e in
          let boys : read.boys ≡ t.boys = ap (λ (r : ReadAfter). r.boys) same in
          let number : read.count ≡ length t.prefactors = ap (λ (r : ReadAfter). r.count) same in
          let small = may.small in
          record {
            left = omega arith;
            boys = omega (arith, few.1, most-boys k l, l-within k);
            few = omega (arith, few-held t next e);
          }
      by (refused r place) e =
          let read-is : Ok read ≡ held_after (refused r place) = sym ok ∙ is ∙ ap held_after e in
          absurd (clash (cc))

  -- what is cleared behind a term that was read is the term as it is held
  cleared-held : (t : Term) → length t.prefactors ≤ most_l·any → cleared_of (sets values 0 t.prefactors) (length t.prefactors) ≡ (held t).prefactors
  unfolding cleared_of
  cleared-held t few =
      let ps = t.prefactors in
      let all : take (length ps) (sets values 0 ps) ≡ ps = ap (take (length ps)) (sets-eq ps values 0 (omega arith)) ∙ take_at ps (drop (0 + length ps) values) (length ps) refl in
      rw all

  pub stepped-over2 : (c : Cursor2) (x : Result ReadAfter Fault) (read : ReadAfter) (after : List ℕ) → AfterTold values (term_after s at k l (take count values)) x after → x ≡ Ok read → Ok (Some (stepped_over2 c.cursor read after)) ≡ stepped_after c (term_after s at k l (take count values))
  stepped-over2 c x read after told ok = by (term_after s at k l (take count values)) refl told.places
    where
      by : (y : Reading Term) → term_after s at k l (take count values) ≡ y → after ≡ places_after values after y → Ok (Some (stepped_over2 c.cursor read after)) ≡ stepped_after c y
      by (got t next) e places =
          let read-is : Ok read ≡ held_after (got t next) = sym ok ∙ told.read ∙ ap held_after e in
          let same : read ≡ after_as t next = cc in
          ap (λ (r : ReadAfter). Ok (Some (stepped_over2 c.cursor r after))) same
          ∙ ap (λ (l : List ℕ). Ok (Some (stepped_over2 c.cursor (after_as t next) l))) places
          ∙ rw (cleared-held t (few-held t next e))
      by (refused r place) e places =
          let read-is : Ok read ≡ held_after (refused r place) = sym ok ∙ told.read ∙ ap held_after e in
          absurd (clash (cc))

-- ---- a step

module _ (k : Kind) (c : Cursor2) (s : List ℕ) (most : ℕ) (is : most ≡ most_l k) where
  module _ (within : c.cursor.l ≤ most) (inside : c.cursor.place ≤ length s) (t : Bool) (forged-is : t ≡ forged_earlier k c.cursor.l c.count c.earlier) where
    no-l : ltb (most_l k) c.cursor.l ≡ false
    no-l = le-ltb (most_l k) c.cursor.l (omega arith)

    no_place : ltb (length s) c.cursor.place ≡ false
    no_place = le-ltb (length s) c.cursor.place inside

    module _ (off : t ≡ false) where
      honest : forged_earlier k c.cursor.l c.count c.earlier ≡ false
      honest = sym forged-is ∙ off

      onward_is : (c.cursor.left ≡ 0 → ⊥) → stepped_after c (term_after s c.cursor.place k c.cursor.l (take c.count c.earlier)) ≡ step_as2 (Some k) c s
      onward_is some = simp (no-l, no_place, honest, ne_eqb c.cursor.left 0 some)

-- a term before that is not forged may be read after
pub honest-may : (k : Kind) (l count : ℕ) (values : List ℕ) (most : ℕ) (t : Bool) → most ≡ most_l k → l ≤ most → t ≡ forged_earlier k l count values → t ≡ false → AfterMay k l count
unfolding forged_earlier
honest-may k l count values most t is within forged-is off =
    let both = or-false-both (ltb (most_prefactors k l) count) (some_above (table_of k) (take count values)) (sym forged-is ∙ off) in
    record { small = omega arith; few = ltb-false (most_prefactors k l) count both.0 }

module _ (k : Kind) (c : Cursor2) (s : List ℕ) (most : ℕ) (t : Bool) (is : most ≡ most_l k) (within : c.cursor.l ≤ most) (inside : c.cursor.place ≤ length s) (forged-is : t ≡ forged_earlier k c.cursor.l c.count c.earlier) (off : t ≡ false) (long : length c.earlier ≡ most_l·any) (some : c.cursor.left ≡ 0 → ⊥) (x : Result ReadAfter Fault) (after : List ℕ) (told : AfterTold c.earlier (term_after s c.cursor.place k c.cursor.l (take c.count c.earlier)) x after) where
  may : AfterMay k c.cursor.l c.count
  may = honest-may k c.cursor.l c.count c.earlier most t is within forged-is off

  pub honest-step-may : (read : ReadAfter) → x ≡ Ok read → StepMay c.cursor read
  honest-step-may read ok = step-may k c.cursor.l s c.cursor.place c.earlier c.count long may c.cursor x read told.read ok some

  pub step-term2 : (read : ReadAfter) → x ≡ Ok read → Ok (Some (stepped_over2 c.cursor read after)) ≡ step_as2 (Some k) c s
  step-term2 read ok = stepped-over2 k c.cursor.l s c.cursor.place c.earlier c.count long may c x read after told ok ∙ onward_is k c s most is within inside t forged-is off some

pub step-kind2 : (c : Cursor2) (s : List ℕ) (n : Option Kind) (k : Kind) (x : Stepped2) → n ≡ kind_of c.cursor.kind → n ≡ Some k → x ≡ step_as2 (Some k) c s → x ≡ step2_of c s
unfolding step2_of
step-kind2 c s n k x is e answer = answer ∙ ap (λ (m : Option Kind). step_as2 m c s) (sym e ∙ is)

pub step-unknown2 : (c : Cursor2) (s : List ℕ) (n : Option Kind) → n ≡ kind_of c.cursor.kind → n ≡ None → refused_step2 BadRoll c.cursor.place ≡ step2_of c s
unfolding step2_of
step-unknown2 c s n is e = ap (λ (m : Option Kind). step_as2 m c s) (sym e ∙ is)
