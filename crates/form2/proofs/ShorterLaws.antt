-- The functions of src/shorter.rt: two parts of a roll beside each other, and the terms of a judged roll measured and written in form 2.
use Prim.Native.Nat.{ℕ, zero, suc, zero-le, ◌+◌, ◌*◌, ◌-◌, ◌≤◌, ◌<◌, min}
use mathlib.Core.Path.{◌≡◌, refl, sym, ap, ap₂, ◌∙◌}
use mathlib.Core.Bool.{Bool, true, false, cond, true≢false}
use mathlib.Core.List.{List, [], ◌∷◌, ◌++◌, append_assoc}
use native.Mathlib.Omega.{arith}
use native.Mathlib.Nat.{not-suc-le-zero, min-le_left, min-le_right, min-eq_left}
use native.Mathlib.Numerals.{add-one}
use borrow.Author.Tests.{eq-eqb, ne_eqb, le-leb, lt-leb, leb-true, ltb-true}
use lib.Dec.{eqb, leb}
use lib.ListN.{length, get_or, take, drop, length-append, length-drop}
use lib.Seq.{sets, length-sets, drop-cons, drop-drop, get_or-take, get_or-drop, length-take-le}
use Rattle.kind.specs.Limits.{most_l·any}
use Rattle.laws.proofs.Lists.{sets-append, drop-take}
use Rattle.number.specs.Read.{Number}
use Rattle.number.specs.Read as number
use Rattle.number.specs.Numbers.{one_byte, bytes_of, length_of, read_at}
use Rattle.number.proofs.Reading.{read_one, read-inside}
use Rattle.number.proofs.Writing.{length-few}
use Rattle.roll.specs.declared.again.Head.{Head}
use Rattle.roll.specs.inner.Again.{seen_of, seen_at, head_at, between}
use Rattle.roll.proofs.AgainLaws.{seen-is, head-made, head-inside}
use Rattle.form2.specs.Bytes.{shared, further_of}
use Rattle.form2.specs.inner.Puts.{Put, two_bytes, plain2, plain_length2, ps_at, head_bytes2, again_bytes2, SmallAgain, AgainMay, ShortRest, short_head, PartsMay}
use Rattle.form2.proofs.Sharing.{shares}
use Rattle.std.specs.Prelude.{Err}

-- ---- room

pub no_room : (room head terms : ℕ) → room < head → false ≡ leb (head + terms) room
no_room room head terms less = sym (lt-leb (head + terms) room (omega arith))

pub room-is : (room head terms : ℕ) → head ≤ room → leb terms (room - head) ≡ leb (head + terms) room
room-is room head terms enough = by (leb terms (room - head)) refl
  where
    by : (b : Bool) → leb terms (room - head) ≡ b → leb terms (room - head) ≡ leb (head + terms) room
    by true e = e ∙ sym (le-leb (head + terms) room (omega (arith, borrow.Author.Tests.leb-true terms (room - head) e)))
    by false e = e ∙ sym (lt-leb (head + terms) room (omega (arith, borrow.Author.Tests.leb-false terms (room - head) e)))

-- ---- two parts of a roll

pub part-long : (s : List ℕ) (a b : ℕ) → a ≤ b → b ≤ length s → length (between s a b) ≡ b - a
unfolding between
part-long s a b order inside = length-take-le (b - a) (drop a s) (omega (arith, length-drop a s))

part-next : (s : List ℕ) (a b i : ℕ) → a ≤ b → b ≤ length s → i < b - a → drop i (between s a b) ≡ get_or s (a + i) 0 ∷ drop (i + 1) (between s a b)
unfolding between
part-next s a b i order inside less =
    let room : i < length (take (b - a) (drop a s)) = omega (arith, part-long s a b order inside) in
    let same : get_or (take (b - a) (drop a s)) i 0 ≡ get_or s (a + i) 0 = get_or-take (b - a) (drop a s) i 0 less ∙ get_or-drop a s i 0 in
    drop-cons (take (b - a) (drop a s)) i 0 room ∙ ap₂ (λ (x n : ℕ). x ∷ drop n (take (b - a) (drop a s))) same (sym (add-one i))

shared-heads : (p q : ℕ) (ps qs : List ℕ) (b : Bool) → eqb p q ≡ b → shared (p ∷ ps) (q ∷ qs) ≡ cond b (suc (shared ps qs)) 0
unfolding shared
shared-heads p q ps qs b e = rw e

pub record Beside (s : List ℕ) (a b c d most i : ℕ) : Type 0 where
  pub inside : i ≤ most
  pub same : shared (between s a b) (between s c d) ≡ i + shared (drop i (between s a b)) (drop i (between s c d))

pub beside_first : (s : List ℕ) (a b c d most : ℕ) → Beside s a b c d most 0
beside_first s a b c d most = record { inside = zero-le; same = omega arith }

module _ (s : List ℕ) (a b c d most i : ℕ) (may : PartsMay s a b c d) (limit : most ≡ min (b - a) (d - c)) (beside : Beside s a b c d most i) where
  two-heads : i < most → shared (drop i (between s a b)) (drop i (between s c d)) ≡ shared (get_or s (a + i) 0 ∷ drop (i + 1) (between s a b)) (get_or s (c + i) 0 ∷ drop (i + 1) (between s c d))
  two-heads less =
      ap₂ shared (part-next s a b i may.one may.inside (omega (arith, min-le_left (b - a) (d - c))))
      (part-next s c d i may.two may.inside_too (omega (arith, min-le_right (b - a) (d - c))))

  pub beside-more : i < most → get_or s (a + i) 0 ≡ get_or s (c + i) 0 → Beside s a b c d most (i + 1)
  beside-more less equal =
      let one = two-heads less ∙ shared-heads (get_or s (a + i) 0) (get_or s (c + i) 0) (drop (i + 1) (between s a b)) (drop (i + 1) (between s c d)) true (eq-eqb (get_or s (a + i) 0) (get_or s (c + i) 0) equal) in
      record { inside = omega arith; same = omega (arith, beside.same, one) }

  pub beside-differ : i < most → (get_or s (a + i) 0 ≡ get_or s (c + i) 0 → ⊥) → i ≡ shared (between s a b) (between s c d)
  beside-differ less differ =
      let one = two-heads less ∙ shared-heads (get_or s (a + i) 0) (get_or s (c + i) 0) (drop (i + 1) (between s a b)) (drop (i + 1) (between s c d)) false (ne_eqb (get_or s (a + i) 0) (get_or s (c + i) 0) differ) in
      omega (arith, beside.same, one)

  pub beside-done : most ≤ i → most ≡ shared (between s a b) (between s c d)
  beside-done done =
      let both = shares (between s a b) (between s c d) in
      let left = both.left in
      let right = both.right in
      omega (arith, beside.same, part-long s a b may.one may.inside, part-long s c d may.two may.inside_too)

-- ---- a term's length

pub length2-is : (scale boys n further a b c d : ℕ) → a ≡ length_of scale → b ≡ length_of boys → c ≡ length_of n → d ≡ length_of further → a + b + c + d + further ≡ plain_length2 scale boys n further
unfolding plain_length2
length2-is scale boys n further a b c d p q r t = rw (p, q, r, t)

length2-small : (scale boys n further : ℕ) → plain_length2 scale boys n further ≤ 20 + further
unfolding plain_length2
length2-small scale boys n further = omega (arith, length-few scale, length-few boys, length-few n, length-few further)

plain2-length : (scale boys n : ℕ) (fs : List ℕ) → length (plain2 scale boys n fs) ≡ plain_length2 scale boys n (length fs)
unfolding plain2 plain_length2 two_bytes length_of
plain2-length scale boys n fs =
    let a = length-append (bytes_of scale ++ bytes_of boys) ((bytes_of n ++ bytes_of (length fs)) ++ fs) in
    let b = length-append (bytes_of scale) (bytes_of boys) in
    let c = length-append (bytes_of n ++ bytes_of (length fs)) fs in
    let d = length-append (bytes_of n) (bytes_of (length fs)) in
    omega arith

-- ---- a term read again

-- a number that is seen ends inside
seen-inside : (s : List ℕ) (at : ℕ) → at ≤ length s → (seen_at s at).next ≤ length s
unfolding seen_at seen_of
seen-inside s at inside = by (read_at s at) refl
  where
    by : (n : Number) → read_at s at ≡ n → (seen_of at n).next ≤ length s
    by (number.Is n next) e = (read-inside s at n next e).1
    by (Err why) e = inside

pub head-order : (s : List ℕ) (place : ℕ) → place ≤ length s → (head_at s place).from ≤ (head_at s place).end
unfolding head_at
head-order s place inside =
    let a = seen-inside s place inside in
    let b = seen-inside s (seen_at s place).next a in
    let c = seen-inside s (seen_at s (seen_at s place).next).next b in
    omega arith

-- ---- the short way

pub not_short : (s : List ℕ) (at : ℕ) → false ≡ true → ShortRest s at
not_short s at e = absurd (true≢false (sym e))

pub short-is : (s : List ℕ) (at rest b count : ℕ) (q t : Bool) → at < length s → rest ≡ length s - at → 2 ≤ rest → b ≡ get_or s at 0 → q ≡ one_byte b → q ≡ true → count ≡ get_or s (at + 1) 0 → t ≡ one_byte count → t ≡ true → leb (count + 2) rest ≡ true → ShortRest s at
short-is s at rest b count q t here left room y b-test b-small z count-test count_small fits =
    let most : count + 2 ≤ rest = leb-true (count + 2) rest fits in
    record {
      boys = ap one_byte (sym y) ∙ sym b-test ∙ b-small;
      count = ap one_byte (sym z) ∙ sym count-test ∙ count_small;
      inside = omega arith;
    }

pub short-made : (s : List ℕ) (scale at b count : ℕ) → b ≡ get_or s at 0 → count ≡ get_or s (at + 1) 0 → ◌≡◌ {A = Head} (record { scale = scale; boys = b; from = at + 2; end = at + 2 + count }) (short_head s scale at)
short-made s scale at b count p q = rw (p, q)

pub short-head : (s : List ℕ) (at scale next : ℕ) (r : Number) (h : Head) (t : Bool) → r ≡ read_at s at → r ≡ number.Is scale next → h ≡ short_head s scale next → (t ≡ true → ShortRest s next) → t ≡ true → h ≡ head_at s at
short-head s at scale next r h t is e answer so on =
    let short = so on in
    let one : number.Is (get_or s next 0) (next + 1) ≡ read_at s next = read_one s next (get_or s next 0) (omega (arith, short.inside)) refl (ltb-true (get_or s next 0) 128 short.boys) in
    let two : number.Is (get_or s (next + 1) 0) (next + 1 + 1) ≡ read_at s (next + 1) = read_one s (next + 1) (get_or s (next + 1) 0) (omega (arith, short.inside)) refl (ltb-true (get_or s (next + 1) 0) 128 short.count) in
    let sum : next + 2 ≡ next + 1 + 1 = omega arith in
    let end : next + 2 + get_or s (next + 1) 0 ≡ min (next + 1 + 1 + get_or s (next + 1) 0) (length s) = ap (λ (n : ℕ). n + get_or s (next + 1) 0) sum ∙ sym (min-eq_left (omega (arith, short.inside))) in
    answer
    ∙ ap (λ (n : ℕ). record { scale = scale; boys = get_or s next 0; from = n; end = next + 2 + get_or s (next + 1) 0 }) sum
    ∙ head-made s at (record { value = scale; next = next }) (record { value = get_or s next 0; next = next + 1 }) (record { value = get_or s (next + 1) 0; next = next + 1 + 1 }) (next + 2 + get_or s (next + 1) 0)
    (seen-is s at r is scale next e)
    (seen-is s next (number.Is (get_or s next 0) (next + 1)) one (get_or s next 0) (next + 1) refl)
    (seen-is s (next + 1) (number.Is (get_or s (next + 1) 0) (next + 1 + 1)) two (get_or s (next + 1) 0) (next + 1 + 1) refl)
    end

pub record Again (s : List ℕ) (terms from end place left : ℕ) : Type 0 where
  pub inside : left ≤ terms
  pub order : from ≤ end
  pub within : end ≤ length s
  pub place_in : place ≤ length s
  pub small : SmallAgain s place left

again-first : (s : List ℕ) (at terms : ℕ) → AgainMay s at terms → Again s terms at at at terms
again-first s at terms may = record { inside = omega arith; order = omega arith; within = may.inside; place_in = may.inside; small = may.small }

small-turn : (s : List ℕ) (place left : ℕ) → 0 < left → SmallAgain s place left → ((head_at s place).end ≤ (head_at s place).from + most_l·any) × SmallAgain s (head_at s place).end (left - 1)
small-turn s place zero some small = absurd (not-suc-le-zero some)
small-turn s place (suc left) some small = let less : suc left - 1 ≡ left = omega arith in rw less small

bytes-turn : (s earlier : List ℕ) (place left : ℕ) → 0 < left → again_bytes2 s earlier place left ≡ head_bytes2 s earlier (head_at s place) ++ again_bytes2 s (ps_at s (head_at s place)) (head_at s place).end (left - 1)
unfolding again_bytes2
bytes-turn s earlier place zero some = absurd (not-suc-le-zero some)
bytes-turn s earlier place (suc left) some = let less : suc left - 1 ≡ left = omega arith in rw less

module _ (s : List ℕ) (terms from end place left : ℕ) (h : Head) (g : Again s terms from end place left) (some : 0 < left) (is : h ≡ head_at s place) where
  head-ordered : h.from ≤ h.end
  head-ordered = rw is (head-order s place g.place_in)

  head_in : h.end ≤ length s
  head_in = head-inside s place h is

  head_few : h.end ≤ h.from + most_l·any
  head_few = rw is (small-turn s place left some g.small).0

  pub again-parts : PartsMay s from end h.from h.end
  again-parts = record { one = g.order; inside = g.within; two = head-ordered; inside_too = head_in }

  again-next : Again s terms h.from h.end h.end (left - 1)
  again-next = record { inside = omega (arith, g.inside); order = head-ordered; within = head_in; place_in = head_in; small = rw is (small-turn s place left some g.small).1 }

  module _ (n : ℕ) (alike : n ≡ shared (between s from end) (between s h.from h.end)) where
    pub again-shared : h.from + n ≤ h.end
    again-shared =
        let right = (shares (between s from end) (between s h.from h.end)).right in
        let long = part-long s h.from h.end head-ordered head_in in
        let order = head-ordered in
        omega arith

    pub again-few : h.end - h.from ≤ most_l·any
    again-few = omega (arith, head_few)

    -- the bytes behind those that are shared are the further prefactors
    further-part : take (h.end - (h.from + n)) (drop (h.from + n) s) ≡ further_of (between s from end) (ps_at s h)
    unfolding further_of ps_at between
    further-part =
        let order = again-shared in
        let rest : h.end - h.from ≡ n + (h.end - (h.from + n)) = omega arith in
        sym (ap (λ (m : ℕ). drop m (take (h.end - h.from) (drop h.from s))) (sym alike)
        ∙ ap (λ (m : ℕ). drop n (take m (drop h.from s))) rest
        ∙ drop-take n (h.end - (h.from + n)) (drop h.from s)
        ∙ ap (take (h.end - (h.from + n))) (drop-drop n h.from s))

    further-long : length (take (h.end - (h.from + n)) (drop (h.from + n) s)) ≡ h.end - h.from - n
    further-long =
        let order = again-shared in
        let within = head_in in
        omega (arith, length-take-le (h.end - (h.from + n)) (drop (h.from + n) s) (omega (arith, length-drop (h.from + n) s)))

    head_bytes : head_bytes2 s (between s from end) (head_at s place) ≡ plain2 h.scale h.boys n (take (h.end - (h.from + n)) (drop (h.from + n) s))
    unfolding head_bytes2 ps_at
    head_bytes =
        ap (head_bytes2 s (between s from end)) (sym is)
        ∙ ap₂ (λ (m : ℕ) (fs : List ℕ). plain2 h.scale h.boys m fs) (sym alike) (sym further-part)

    bytes-are : again_bytes2 s (between s from end) place left ≡ plain2 h.scale h.boys n (take (h.end - (h.from + n)) (drop (h.from + n) s)) ++ again_bytes2 s (between s h.from h.end) h.end (left - 1)
    unfolding ps_at
    bytes-are =
        bytes-turn s (between s from end) place left some
        ∙ ap₂ ◌++◌ head_bytes (ap (λ (x : Head). again_bytes2 s (between s x.from x.end) x.end (left - 1)) (sym is))

-- ---- measuring

pub record Sizing2 (s : List ℕ) (at terms from end place done n : ℕ) : Type 0 where
  pub within : done ≤ terms
  pub again : Again s terms from end place (terms - done)
  pub bound : n ≤ 64 * done
  pub whole : n + length (again_bytes2 s (between s from end) place (terms - done)) ≡ length (again_bytes2 s [] at terms)

pub sizing2-parts : (s : List ℕ) (at terms from end place done size : ℕ) (h : Head) → Sizing2 s at terms from end place done size → done < terms → h ≡ head_at s place → PartsMay s from end h.from h.end
sizing2-parts s at terms from end place done size h z some is = again-parts s terms from end place (terms - done) h z.again (omega arith) is

no_part : (s : List ℕ) (at : ℕ) → between s at at ≡ []
unfolding between
no_part s at = let none : at - at ≡ 0 = omega arith in rw none

pub sizing2-first : (s : List ℕ) (at terms : ℕ) → AgainMay s at terms → Sizing2 s at terms at at at 0 0
sizing2-first s at terms may =
    let all : terms - 0 ≡ terms = omega arith in
    record { within = zero-le; again = rw all (again-first s at terms may); bound = zero-le; whole = rw all (let none = ap (λ (l : List ℕ). length (again_bytes2 s l at terms)) (no_part s at) in omega arith) }

module _ (s : List ℕ) (at terms from end place done size : ℕ) (h : Head) (n : ℕ) (z : Sizing2 s at terms from end place done size) (some : done < terms) (is : h ≡ head_at s place) (alike : n ≡ shared (between s from end) (between s h.from h.end)) where
  pub size-shared : h.from + n ≤ h.end
  size-shared = again-shared s terms from end place (terms - done) h z.again (omega arith) is n alike

  pub size_few : h.end - h.from ≤ most_l·any
  size_few = again-few s terms from end place (terms - done) h z.again (omega arith) is n alike

  module _ (v : ℕ) (measured : v ≡ plain_length2 h.scale h.boys n (h.end - h.from - n)) where
    pub size_fits : size + v ≤ 64 * terms
    size_fits = let few = size_few in omega (arith, z.bound, measured, length2-small h.scale h.boys n (h.end - h.from - n))

    pub sizing2-more : Sizing2 s at terms h.from h.end h.end (done + 1) (size + v)
    sizing2-more =
        let g = z.again in
        let few = size_few in
        let less : terms - done - 1 ≡ terms - (done + 1) = omega arith in
        let fs = take (h.end - (h.from + n)) (drop (h.from + n) s) in
        let long : length fs ≡ h.end - h.from - n = further-long s terms from end place (terms - done) h g (omega arith) is n alike in
        let all = ap length (rw less at (bytes-are s terms from end place (terms - done) h g (omega arith) is n alike)) in
        let both = length-append (plain2 h.scale h.boys n fs) (again_bytes2 s (between s h.from h.end) h.end (terms - (done + 1))) in
        let one : length (plain2 h.scale h.boys n fs) ≡ v = plain2-length h.scale h.boys n fs ∙ ap (plain_length2 h.scale h.boys n) long ∙ sym measured in
        record {
          within = omega arith;
          again = rw less at (again-next s terms from end place (terms - done) h g (omega arith) is);
          bound = omega (arith, z.bound, measured, length2-small h.scale h.boys n (h.end - h.from - n));
          whole = omega (arith, z.whole, all, both, one);
        }

no_bytes : (s earlier : List ℕ) (place left : ℕ) → left ≡ 0 → again_bytes2 s earlier place left ≡ []
unfolding again_bytes2
no_bytes s earlier place left none = rw none

pub sizing2-done : (s : List ℕ) (at terms from end place done size : ℕ) → Sizing2 s at terms from end place done size → terms ≤ done → size ≡ length (again_bytes2 s [] at terms)
sizing2-done s at terms from end place done size z all =
    let nothing = ap length (no_bytes s (between s from end) place (terms - done) (omega arith)) in
    omega (arith, z.whole, nothing)

-- ---- writing

pub record Writing2 (before : List ℕ) (start : ℕ) (s : List ℕ) (at terms : ℕ) (out : List ℕ) (from end place went to : ℕ) : Type 0 where
  pub within : went ≤ terms
  pub again : Again s terms from end place (terms - went)
  pub done : List ℕ
  pub room : start + length (again_bytes2 s [] at terms) ≤ length before
  pub stored : out ≡ sets before start done
  pub next : to ≡ start + length done
  pub whole : done ++ again_bytes2 s (between s from end) place (terms - went) ≡ again_bytes2 s [] at terms

pub writing2-first : (out : List ℕ) (start : ℕ) (s : List ℕ) (at terms : ℕ) → AgainMay s at terms → start + length (again_bytes2 s [] at terms) ≤ length out → Writing2 out start s at terms out at at at 0 start
writing2-first out start s at terms may room =
    let all : terms - 0 ≡ terms = omega arith in
    record { within = zero-le; again = rw all (again-first s at terms may); done = []; room = room; stored = refl; next = omega arith; whole = rw all (ap (λ (l : List ℕ). again_bytes2 s l at terms) (no_part s at)) }

pub writing2-parts : (before : List ℕ) (start : ℕ) (s : List ℕ) (at terms : ℕ) (out : List ℕ) (from end place went to : ℕ) (h : Head) → Writing2 before start s at terms out from end place went to → went < terms → h ≡ head_at s place → PartsMay s from end h.from h.end
writing2-parts before start s at terms out from end place went to h w some is = again-parts s terms from end place (terms - went) h w.again (omega arith) is

pub writing2-length : (before : List ℕ) (start : ℕ) (s : List ℕ) (at terms : ℕ) (out : List ℕ) (from end place went to : ℕ) → Writing2 before start s at terms out from end place went to → length out ≡ length before
writing2-length before start s at terms out from end place went to w = ap length w.stored ∙ length-sets before start w.done

module _ (before : List ℕ) (start : ℕ) (s : List ℕ) (at terms : ℕ) (out : List ℕ) (from end place went to : ℕ) (h : Head) (n : ℕ) (w : Writing2 before start s at terms out from end place went to) (some : went < terms) (is : h ≡ head_at s place) (alike : n ≡ shared (between s from end) (between s h.from h.end)) where
  pub write-shared : h.from + n ≤ h.end
  write-shared = again-shared s terms from end place (terms - went) h w.again (omega arith) is n alike

  pub write-few : h.end - h.from ≤ most_l·any
  write-few = again-few s terms from end place (terms - went) h w.again (omega arith) is n alike

  pub write-in : h.end ≤ length s
  write-in = head-inside s place h is

  all : w.done ++ (plain2 h.scale h.boys n (take (h.end - (h.from + n)) (drop (h.from + n) s)) ++ again_bytes2 s (between s h.from h.end) h.end (terms - (went + 1))) ≡ again_bytes2 s [] at terms
  all =
      let less : terms - went - 1 ≡ terms - (went + 1) = omega arith in
      ap (λ (l : List ℕ). w.done ++ l) (sym (rw less at (bytes-are s terms from end place (terms - went) h w.again (omega arith) is n alike))) ∙ w.whole

  pub write-short : length (take (h.end - (h.from + n)) (drop (h.from + n) s)) ≤ most_l·any
  write-short = let few = write-few in omega (arith, further-long s terms from end place (terms - went) h w.again (omega arith) is n alike)

  pub write-room : to + length (plain2 h.scale h.boys n (take (h.end - (h.from + n)) (drop (h.from + n) s))) ≤ length out
  write-room =
      let one = plain2 h.scale h.boys n (take (h.end - (h.from + n)) (drop (h.from + n) s)) in
      let rest = again_bytes2 s (between s h.from h.end) h.end (terms - (went + 1)) in
      let a = ap length all in
      let b = length-append w.done (one ++ rest) in
      let c = length-append one rest in
      let long = writing2-length before start s at terms out from end place went to w in
      omega (arith, w.room, w.next, a, b, c, long)

  pub writing2-more : (r : ℕ) (after : List ℕ) → Put (plain2 h.scale h.boys n (take (h.end - (h.from + n)) (drop (h.from + n) s))) to out r after → Writing2 before start s at terms after h.from h.end h.end (went + 1) r
  writing2-more r after p =
      let one = plain2 h.scale h.boys n (take (h.end - (h.from + n)) (drop (h.from + n) s)) in
      let less : terms - went - 1 ≡ terms - (went + 1) = omega arith in
      record {
        within = omega arith;
        again = rw less at (again-next s terms from end place (terms - went) h w.again (omega arith) is);
        done = w.done ++ one;
        room = w.room;
        stored = p.out ∙ ap₂ (λ (l : List ℕ) (k : ℕ). sets l k one) w.stored w.next ∙ sym (sets-append before start w.done one);
        next = omega (arith, p.next, w.next, length-append w.done one);
        whole = append_assoc w.done one (again_bytes2 s (between s h.from h.end) h.end (terms - (went + 1))) ∙ all;
      }

pub writing2-done : (before : List ℕ) (start : ℕ) (s : List ℕ) (at terms : ℕ) (out : List ℕ) (from end place went to : ℕ) → Writing2 before start s at terms out from end place went to → terms ≤ went → Put (again_bytes2 s [] at terms) start before to out
writing2-done before start s at terms out from end place went to w none =
    let nothing = no_bytes s (between s from end) place (terms - went) (omega arith) in
    let all : w.done ≡ again_bytes2 s [] at terms = sym (mathlib.Core.List.append-nil w.done) ∙ ap (λ (l : List ℕ). w.done ++ l) (sym nothing) ∙ w.whole in
    rw (← all) (record { next = w.next; out = w.stored })
