-- The functions of src/quick.rt, and what uses them: numbers of one byte each read as they stand, and stand in their places as they are copied.
use Prim.Native.Nat.{ℕ, zero, suc, zero-le, ◌+◌, ◌-◌, ◌≤◌, ◌<◌}
use mathlib.Core.Path.{◌≡◌, refl, sym, ap, ◌∙◌}
use mathlib.Core.Bool.{Bool, true, false, true≢false, ◌&&◌}
use mathlib.Core.List.{List, [], ◌∷◌}
use native.Mathlib.Omega.{arith}
use mir.Syntax.{w32}
use mir.Val.{Fits}
use native.Mathlib.Numerals.{add-one}
use borrow.Author.Tests.{leb-true}
use lib.Dec.{ltb, leb, eqb}
use lib.ListN.{length, get_or, set, take, drop, length-drop}
use lib.Seq.{sets, take-suc, take_all, length-take-le, drop-cons, get_or-take, get_or-drop}
use Rattle.kind.specs.Limits.{most_l·any, most_scale}
use Rattle.kind.specs.Kinds.{table_of, most_prefactors}
use Rattle.kind.specs.declared.Kind.{Kind}
use Rattle.kind.proofs.Within.{l-within}
use Rattle.laws.proofs.Lists.{sets-append}
use Rattle.number.proofs.Reading.{read_one}
use Rattle.number.specs.Read as number
use Rattle.roll.specs.Field.{Field}
use Rattle.roll.specs.Field as field
use Rattle.roll.specs.Reading.{got, within_at, prefactors_at, most_boys}
use Rattle.std.specs.Prelude.{Result, Ok}
use Rattle.kind.specs.declared.refusals.Fault.{Fault}
use Rattle.roll.specs.inner.Again.{between}
use Rattle.roll.specs.inner.Over.{SmallBytes}
use Rattle.roll.proofs.Back.{most-boys}
use Rattle.roll.proofs.FieldLaws.{within-is}
use Rattle.roll.proofs.TermsLaws.{few-prefactors}
use Rattle.form2.specs.declared.terms.ReadFront.{ReadFront}
use Rattle.form2.specs.declared.terms.ReadAfter.{ReadAfter}
use Rattle.form2.specs.Reading.{further_count_at, shared_at, boys_at2, front_at, goes_on, further_at, term_after}
use Rattle.form2.specs.inner.Held.{held_front, AfterMay, AfterTold, ShortFront, short_front, ShortMay, ShortTold}
use Rattle.form2.proofs.TermsLaws.{further-none, follows, after-few, after-may, after_read}

-- ---- the numbers

pub not_short : (s : List ℕ) (at boys longest most : ℕ) → false ≡ true → ShortFront s at boys longest most
not_short s at boys longest most e = absurd (true≢false (sym e))

pub short-is : (s : List ℕ) (at boys longest most rest b shared further : ℕ) → at < length s → rest ≡ length s - at → 3 ≤ rest → b ≡ get_or s at 0 → b ≤ boys → shared ≡ get_or s (at + 1) 0 → shared ≤ longest → shared ≤ most → further ≡ get_or s (at + 2) 0 → leb further (most - shared) ≡ true → ShortFront s at boys longest most
short-is s at boys longest most rest b shared further here left room x low y less under z total =
    let sum : further ≤ most - shared = leb-true further (most - shared) total in
    record { inside = omega arith; boys = omega arith; shared = omega arith; total = omega arith }

pub short-made : (s : List ℕ) (scale at b shared further : ℕ) → b ≡ get_or s at 0 → shared ≡ get_or s (at + 1) 0 → further ≡ get_or s (at + 2) 0 → ◌≡◌ {A = ReadFront} (record { scale = scale; boys = b; shared = shared; further = further; next = at + 3 }) (short_front s scale at)
short-made s scale at b shared further p q r = rw (p, q, r)

-- a byte within a limit below 128
byte-is : (s : List ℕ) (at high : ℕ) → at < length s → high < 128 → get_or s at 0 ≤ high → within_at s at 0 high ≡ field.Is (get_or s at 0) (at + 1)
byte-is s at high here small below = sym (within-is s at 0 high (number.Is (get_or s at 0) (at + 1)) (get_or s at 0) (at + 1) (read_one s at (get_or s at 0) here refl (omega arith)) refl zero-le below)

module _ (k : Kind) (l longest : ℕ) (s : List ℕ) (at : ℕ) (may : AfterMay k l longest) (boys most : ℕ) (boys-is : boys ≡ most_boys k l) (most-is : most ≡ most_prefactors k l) where
  few : most_prefactors k l ≤ most_l·any
  few = few-prefactors k l may.small

  boys-few : most_boys k l ≤ most_l·any
  boys-few = omega (arith, most-boys k l, may.small, l-within k)

  front-is : (x : Field) (scale next : ℕ) → x ≡ within_at s at 1 most_scale → x ≡ field.Is scale next → ShortFront s next boys longest most → front_at s at k l longest ≡ got (record { scale = scale; boys = get_or s next 0; shared = get_or s (next + 1) 0; further = get_or s (next + 2) 0 }) (next + 3)
  unfolding front_at boys_at2 shared_at further_count_at
  front-is x scale next is e short =
      let inside = short.inside in
      let a = few in
      let b = boys-few in
      let c = may.few in
      let total = short.total in
      let n = get_or s (next + 1) 0 in
      let two : next + 1 + 1 ≡ next + 2 = omega arith in
      let three : next + 2 + 1 ≡ next + 3 = omega arith in
      let scale-read : within_at s at 1 most_scale ≡ field.Is scale next = sym is ∙ e in
      let boys-read : within_at s next 0 (most_boys k l) ≡ field.Is (get_or s next 0) (next + 1) = byte-is s next (most_boys k l) (omega arith) (omega arith) (omega (arith, short.boys)) in
      let shared-read : within_at s (next + 1) 0 longest ≡ field.Is n (next + 1 + 1) = byte-is s (next + 1) longest (omega arith) (omega arith) short.shared in
      let further-read : within_at s (next + 2) 0 (most_prefactors k l - n) ≡ field.Is (get_or s (next + 2) 0) (next + 2 + 1) = byte-is s (next + 2) (most_prefactors k l - n) (omega arith) (omega arith) (omega arith) in
      rw (scale-read, boys-read, shared-read, two, further-read, three)

  pub numbers-short : (x : Field) (scale next : ℕ) (y : ReadFront) (t : Bool) → x ≡ within_at s at 1 most_scale → x ≡ field.Is scale next → y ≡ short_front s scale next → (t ≡ true → ShortFront s next boys longest most) → t ≡ true → Ok y ≡ held_front (front_at s at k l longest)
  numbers-short x scale next y t is e answer so on = ap (λ (y : ReadFront). Ok y) answer ∙ sym (ap held_front (front-is x scale next is e (so on)))

-- ---- the further prefactors

bytes-at : (s : List ℕ) (count at table : ℕ) → at + count ≤ length s → 1 ≤ table → table ≤ 128 → ((i : ℕ) → at ≤ i → i < at + count → get_or s i 0 ≤ table - 1) → prefactors_at s at count table ≡ got (take count (drop at s)) (at + count)
unfolding prefactors_at
bytes-at s zero at table inside some most each = ap (λ (n : ℕ). got [] n) (omega arith)
bytes-at s (suc count) at table inside some most each =
    let one : within_at s at 0 (table - 1) ≡ field.Is (get_or s at 0) (at + 1) = byte-is s at (table - 1) (omega arith) (omega arith) (each at (omega arith) (omega arith)) in
    let rest : prefactors_at s (at + 1) count table ≡ got (take count (drop (at + 1) s)) (at + 1 + count) = bytes-at s count (at + 1) table (omega arith) some most (λ i low high. each i (omega arith) (omega arith)) in
    let list : drop at s ≡ get_or s at 0 ∷ drop (at + 1) s = drop-cons s at 0 (omega arith) ∙ ap (λ (n : ℕ). get_or s at 0 ∷ drop n s) (sym (add-one at)) in
    let sum : at + 1 + count ≡ at + suc count = omega arith in
    rw (one, rest, list, sum)

pub record Placed (s : List ℕ) (at : ℕ) (before : List ℕ) (from count : ℕ) (values : List ℕ) (i : ℕ) : Type 0 where
  pub inside : i ≤ count
  pub stored : values ≡ sets before from (take i (between s at (at + count)))

module _ (s : List ℕ) (at : ℕ) (before : List ℕ) (from count : ℕ) where
  module _ (room : (at + count ≤ length s) × (from + count ≤ most_l·any)) where
    part-long : length (between s at (at + count)) ≡ count
    unfolding between
    part-long = let n : at + count - at ≡ count = omega arith in ap (λ (m : ℕ). length (take m (drop at s))) n ∙ length-take-le count (drop at s) (let a = room.0 in omega (arith, length-drop at s))

    part_at : (i : ℕ) → i < count → get_or (between s at (at + count)) i 0 ≡ get_or s (at + i) 0
    unfolding between
    part_at i less = get_or-take (at + count - at) (drop at s) i 0 (omega arith) ∙ get_or-drop at s i 0

    module _ (values : List ℕ) (i : ℕ) (p : Placed s at before from count values i) where
      pub placed-more : i < count → Placed s at before from count (set values (from + i) (get_or s (at + i) 0)) (i + 1)
      placed-more less =
          let bytes = between s at (at + count) in
          let all = part-long in
          let long : length (take i bytes) ≡ i = length-take-le i bytes (omega arith) in
          record {
            inside = omega arith;
            stored =
                ap (λ (b : ℕ). set values (from + i) b) (sym (part_at i less))
                ∙ ap (λ (l : List ℕ). set l (from + i) (get_or bytes i 0)) p.stored
                ∙ ap (λ (n : ℕ). set (sets before from (take i bytes)) (from + n) (get_or bytes i 0)) (sym long)
                ∙ sym (sets-append before from (take i bytes) (get_or bytes i 0 ∷ []))
                ∙ ap (sets before from) (sym (take-suc bytes i 0 (omega arith)))
                ∙ ap (λ (n : ℕ). sets before from (take n bytes)) (sym (add-one i));
          }

      pub placed-done : count ≤ i → values ≡ sets before from (between s at (at + count))
      placed-done done = p.stored ∙ ap (sets before from) (take_all i (between s at (at + count)) (omega (arith, part-long)))

module _ (s : List ℕ) (at : ℕ) (values : List ℕ) (count from left table : ℕ) where
  pub short_none : at ≤ length s → left ≡ 0 → ShortTold s at values count from left table true values
  short_none here none =
      let a : from + left ≡ from = omega arith in
      let b : at + left ≡ at = omega arith in
      record { placed = λ e. rw (a, b) (further-none s at values from left table count none); inside = λ e. omega arith; kept = λ e. absurd (true≢false e) }

  pub short-not : ShortTold s at values count from left table false values
  short-not = record { placed = λ e. absurd (true≢false (sym e)); inside = λ e. absurd (true≢false (sym e)); kept = λ e. refl }

  pub short-all : (there b : ℕ) (t g : Bool) (after : List ℕ) → ShortMay values count from left table → (left ≡ 0 → ⊥) → at ≤ length s → left ≤ length s - at → (t ≡ true → SmallBytes s at (at + left) (table - 1)) → t ≡ true → there ≡ get_or values from 0 → b ≡ get_or s at 0 → g ≡ (ltb from count && eqb there b) → g ≡ false → after ≡ sets values from (between s at (at + left)) → ShortTold s at values count from left table true after
  unfolding further_at between
  short-all there b t g after may some here room so on stands byte goes off put =
      let m = may.more in
      let first : left ≡ suc (left - 1) = omega arith in
      let each = (so on).each in
      let one : within_at s at 0 (table - 1) ≡ field.Is (get_or s at 0) (at + 1) = byte-is s at (table - 1) (omega arith) (omega (arith, m.most)) (each at (omega arith) (omega arith)) in
      let rest : prefactors_at s (at + 1) (left - 1) table ≡ got (take (left - 1) (drop (at + 1) s)) (at + 1 + (left - 1)) = bytes-at s (left - 1) (at + 1) table (omega arith) m.some (omega (arith, m.most)) (λ i low high. each i (omega arith) (omega arith)) in
      let list : drop at s ≡ get_or s at 0 ∷ drop (at + 1) s = drop-cons s at 0 (omega arith) ∙ ap (λ (n : ℕ). get_or s at 0 ∷ drop n s) (sym (add-one at)) in
      let no : goes_on (drop from (take count values)) (get_or s at 0) ≡ false = ap (goes_on (drop from (take count values))) (sym byte) ∙ follows values count from b there may.long may.few stands ∙ sym goes ∙ off in
      let whole : take left (drop at s) ≡ get_or s at 0 ∷ take (left - 1) (drop (at + 1) s) = ap (λ (n : ℕ). take n (drop at s)) first ∙ rw list in
      let end : at + 1 + (left - 1) ≡ at + left = omega arith in
      let reads : further_at s at left table (drop from (take count values)) ≡ got (take left (drop at s)) (at + left) = ap (λ (n : ℕ). further_at s at n table (drop from (take count values))) first ∙ rw (one, no, rest, end) (ap (λ (l : List ℕ). got l (at + left)) (sym whole)) in
      let long : length (take left (drop at s)) ≡ left = length-take-le left (drop at s) (omega (arith, length-drop at s)) in
      let part : at + left - at ≡ left = omega arith in
      record {
        placed = λ e. rw reads (record { found = ap (λ (n : ℕ). field.Is (from + n) (at + left)) (sym long); places = put ∙ ap (λ (n : ℕ). sets values from (take n (drop at s))) part });
        inside = λ e. omega arith;
        kept = λ e. absurd (true≢false e);
      }

-- bytes that were looked at may be copied
pub short-bytes : (s : List ℕ) (at left last : ℕ) (t : Bool) → (t ≡ true → SmallBytes s at (at + left) last) → t ≡ true → SmallBytes s at (at + left) last
short-bytes s at left last t so on = so on

-- ---- a term

module _ (k : Kind) (l : ℕ) (s : List ℕ) (at : ℕ) (values : List ℕ) (count : ℕ) (x : Result ReadFront Fault) (may : AfterMay k l count) (is : x ≡ held_front (front_at s at k l count)) (long : length values ≡ most_l·any) (read : ReadFront) (table : ℕ) (ok : x ≡ Ok read) (size : table ≡ table_of k) where
  pub next-may : ShortMay values count read.shared read.further table
  next-may = record { more = after-may k l s at values count x may is read table ok size; few = after-few k l count may; long = long }

  pub next_fits : Fits w32 (read.shared + read.further)
  next_fits = let room = next-may.more.room in omega arith

  module _ (t : Bool) (after : List ℕ) (told : ShortTold s read.next values count read.shared read.further table t after) where
    pub next-placed : t ≡ true → AfterTold values (term_after s at k l (take count values)) (Ok (record { scale = read.scale; boys = read.boys; count = read.shared + read.further; end = read.next + read.further })) after
    next-placed on = after_read k l s at values count x may is long read table (field.Is (read.shared + read.further) (read.next + read.further)) after (Ok (record { scale = read.scale; boys = read.boys; count = read.shared + read.further; end = read.next + read.further })) ok size (told.placed on) refl

    pub next-long : t ≡ false → length after ≡ most_l·any
    next-long off = ap length (told.kept off) ∙ long

    pub next-else : (y : Result ReadAfter Fault) (last : List ℕ) → t ≡ false → AfterTold after (term_after s at k l (take count after)) y last → AfterTold values (term_after s at k l (take count values)) y last
    next-else y last off answer = rw (told.kept off) at answer
