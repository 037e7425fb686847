-- The shape of a line by its places: the digits of a number, whether they are one, and the byte after them, from the place where it begins.
use Prim.Native.Nat.{ℕ, zero, suc, ◌+◌, ◌-◌, ◌≤◌, ◌<◌}
use mathlib.Core.Path.{◌≡◌, refl, sym, ap, ◌∙◌}
use mathlib.Core.Bool.{Bool, true, false}
use mathlib.Core.List.{List, [], ◌∷◌, ◌++◌, append_assoc, append-nil}
use native.Mathlib.Omega.{arith}
use borrow.Author.Tests.{lt-ltb, le-ltb, ltb-true, ltb-false, leb-true, leb-false, eq-eqb, ne_eqb}
use lib.Dec.{ltb, leb}
use lib.ListN.{length, get_or, take, drop, length-drop, drop_of_length-le}
use lib.Seq.{drop-cons, drop-drop}
use Rattle.std.specs.Char.{is_ascii_digit}
use Rattle.std.specs.List.{prefix_len}
use Rattle.laws.proofs.Cases.{tested}
use Rattle.laws.proofs.Lists.{drop_head}
use Rattle.laws.proofs.Parts.{part-all}
use Rattle.text.specs.Digits.{worth, value_from}
use Rattle.text.specs.Reading.{run_of}
use Rattle.text.proofs.Digits.{worth-below, worth-figure, worth-between, worth-letter, worth-above}
use Rattle.text.proofs.Reading.{run_past}
use Rattle.importing.specs.inner.Shape as shape
use Rattle.importing.specs.Lines.{is_number, Line, line, broken, before, after, line_from, line_on}
use Rattle.importing.specs.inner.Places.{counted, shape_at}

-- ---- digits

digit_low : (b : ℕ) → b < 48 → 10 ≤ worth b
digit_low b h = omega (arith, worth-below b h)

pub digit-high : (b : ℕ) → 57 < b → 10 ≤ worth b
digit-high b h =
    tested (ltb b 97)
    (λ y. omega (arith, worth-between b (omega arith) (ltb-true b 97 y)))
    (λ y.
    let from : 97 ≤ b = ltb-false b 97 y in
    tested (ltb b 103)
    (λ z. omega (arith, worth-letter b from (ltb-true b 103 z)))
    (λ z. omega (arith, worth-above b (ltb-false b 103 z))))

pub digit-is : (b : ℕ) → 48 ≤ b → b ≤ 57 → worth b < 10
digit-is b h k = omega (arith, worth-figure b h (omega arith))

digit-test : (b : ℕ) → ltb (worth b) 10 ≡ is_ascii_digit b
digit-test b =
    tested (leb 48 b)
    (λ y.
    let low = leb-true 48 b y in
    tested (leb b 57)
    (λ z. rw (y, z) (lt-ltb (worth b) 10 (digit-is b low (leb-true b 57 z))))
    (λ z. rw (y, z) (le-ltb (worth b) 10 (digit-high b (leb-false b 57 z)))))
    (λ y. rw y (le-ltb (worth b) 10 (digit_low b (leb-false 48 b y))))

-- as many digits as the run has
run-prefix : (s : List ℕ) → length (run_of s 10) ≡ prefix_len is_ascii_digit s
run-prefix [] = refl
run-prefix (b ∷ s) =
    tested (ltb (worth b) 10)
    (λ y. let t : is_ascii_digit b ≡ true = sym (digit-test b) ∙ y in rw (y, run_of, t) (let h = run-prefix s in omega arith))
    (λ y. let t : is_ascii_digit b ≡ false = sym (digit-test b) ∙ y in rw (y, run_of, t))

pub digits-end : (s : List ℕ) (place n : ℕ) → n ≡ prefix_len is_ascii_digit (take (length s - place) (drop place s)) → place + n ≡ place + length (run_of (drop place s) 10)
digits-end s place n e = ap (λ (m : ℕ). place + m) (e ∙ ap (prefix_len is_ascii_digit) (part-all s place) ∙ sym (run-prefix (drop place s)))

-- ---- a number

pub run-few : (s : List ℕ) → length (run_of s 10) ≤ length s
run-few [] = omega arith
run-few (b ∷ s) =
    tested (ltb (worth b) 10)
    (λ y. rw (y, run_of) (let h = run-few s in omega arith))
    (λ y. rw (y, run_of) (omega arith))

run-first : (s : List ℕ) → 1 ≤ length (run_of s 10) → get_or (run_of s 10) 0 0 ≡ get_or s 0 0
run-first [] h = refl
run-first (b ∷ s) h =
    tested (ltb (worth b) 10)
    (λ y. rw (y, run_of))
    (λ y. let none : length (run_of (b ∷ s) 10) ≡ 0 = rw (y, run_of) in absurd (omega (arith, none)))

pub number-none : (run : List ℕ) (at end : ℕ) → end ≡ at + length run → end ≡ at → false ≡ is_number run
number-none [] at end e h = refl
number-none (d ∷ run) at end e h = absurd (omega arith)

pub number-one : (run : List ℕ) (at end : ℕ) → end ≡ at + length run → end ≡ at + 1 → true ≡ is_number run
number-one [] at end e h = absurd (omega arith)
number-one (d ∷ []) at end e h = refl
number-one (d ∷ x ∷ run) at end e h = absurd (omega arith)

first-digit : (run : List ℕ) → 2 ≤ length run → is_number run ≡ ltb 48 (get_or run 0 0)
first-digit [] h = absurd (omega arith)
first-digit (d ∷ []) h = absurd (omega arith)
first-digit (d ∷ x ∷ run) h = refl

pub number-inside : (s : List ℕ) (at end : ℕ) → end ≡ at + length (run_of (drop at s) 10) → (end ≡ at → ⊥) → at < length s
number-inside s at end e some =
    tested (ltb at (length s))
    (λ y. ltb-true at (length s) y)
    (λ y. absurd (some (omega (arith, e, ap length (run_past s 10 at (ltb-false at (length s) y))))))

two-or-more : (n : ℕ) → (n ≡ 0 → ⊥) → (n ≡ 1 → ⊥) → 2 ≤ n
two-or-more zero a b = absurd (a refl)
two-or-more (suc zero) a b = absurd (b refl)
two-or-more (suc (suc n)) a b = omega arith

pub number-many : (s : List ℕ) (at end : ℕ) → end ≡ at + length (run_of (drop at s) 10) → (end ≡ at → ⊥) → (end ≡ at + 1 → ⊥)
    → ltb 48 (get_or s at 0) ≡ is_number (run_of (drop at s) 10)
number-many s at end e some more =
    let inside = number-inside s at end e some in
    let two : 2 ≤ length (run_of (drop at s) 10) = two-or-more (length (run_of (drop at s) 10)) (λ q. some (omega arith)) (λ q. more (omega arith)) in
    let first : get_or (drop at s) 0 0 ≡ get_or s at 0 = ap (λ (l : List ℕ). get_or l 0 0) (drop-cons s at 0 inside) in
    sym (first-digit (run_of (drop at s) 10) two ∙ ap (ltb 48) (run-first (drop at s) (omega arith) ∙ first))

-- ---- a line

pub line-run : (run s : List ℕ) → line_from run s ≡ line_from (run ++ run_of s 10) (drop (length (run_of s 10)) s)
unfolding line_from
line-run run [] = refl
line-run run (b ∷ s) =
    tested (ltb (worth b) 10)
    (λ y. rw (y, line_from) (rw (y, run_of) (line-run (run ++ (b ∷ [])) s ∙ ap (λ (l : List ℕ). line_from l (drop (length (run_of s 10)) s)) (append_assoc run (b ∷ []) (run_of s 10)))))
    (λ y. rw (y, run_of) (ap (λ (l : List ℕ). line_from l (b ∷ s)) (sym (append-nil run))))

pub line-byte : (run : List ℕ) (b : ℕ) (s : List ℕ) → ltb (worth b) 10 ≡ false → line_from run (b ∷ s) ≡ after run b s (line_on s)
unfolding line_from
line-byte run b s y = rw (y, line_from)

-- what follows the digits is none
run-stops : (s : List ℕ) (b : ℕ) (t : List ℕ) → drop (length (run_of s 10)) s ≡ b ∷ t → ltb (worth b) 10 ≡ false
run-stops [] b t e = absurd (omega (arith, ap length e))
run-stops (x ∷ s) b t e =
    tested (ltb (worth x) 10)
    (λ y. run-stops s b t (rw (y, run_of) at e))
    (λ y. let same : x ≡ b = cc (rw (y, run_of) at e) in rw same at y)

-- a line whose number's digits end at a place
pub line-digits : (s : List ℕ) (place end : ℕ) → end ≡ place + length (run_of (drop place s) 10) → line_on (drop place s) ≡ line_from (run_of (drop place s) 10) (drop end s)
line-digits s place end e =
    line-run [] (drop place s) ∙ ap (line_from (run_of (drop place s) 10)) (drop-drop (length (run_of (drop place s) 10)) place s ∙ ap (λ (n : ℕ). drop n s) (sym e))

pub line_after : (s : List ℕ) (place end : ℕ) → end ≡ place + length (run_of (drop place s) 10) → end < length s
    → line_on (drop place s) ≡ after (run_of (drop place s) 10) (get_or s end 0) (drop (end + 1) s) (line_on (drop (end + 1) s))
line_after s place end e inside =
    let is : drop end s ≡ get_or s end 0 ∷ drop (end + 1) s = drop_head s end (get_or s end 0) inside refl in
    let stops : ltb (worth (get_or s end 0)) 10 ≡ false =
    run-stops (drop place s) (get_or s end 0) (drop (end + 1) s) (drop-drop (length (run_of (drop place s) 10)) place s ∙ ap (λ (n : ℕ). drop n s) (sym e) ∙ is) in
    line-digits s place end e ∙ ap (line_from (run_of (drop place s) 10)) is ∙ line-byte (run_of (drop place s) 10) (get_or s end 0) (drop (end + 1) s) stops

-- ---- the loop over a line's numbers: those counted, and the line that is left, are the whole line

pub record Counting (s : List ℕ) (at place n : ℕ) : Type 0 where
  pub few : n ≤ place
  pub whole : counted (length s) n (line_on (drop place s)) ≡ shape_at s at

pub counting-first : (s : List ℕ) (at : ℕ) → Counting s at at 0
unfolding shape_at
counting-first s at = record { few = omega arith; whole = refl }

line-ended : (run : List ℕ) → line_from run [] ≡ broken
unfolding line_from
line-ended run = refl

pub counting-cut : (s : List ℕ) (at place n end : ℕ) → Counting s at place n → end ≡ place + length (run_of (drop place s) 10) → length s ≤ end → shape.Broken ≡ shape_at s at
counting-cut s at place n end c e past =
    sym (ap (counted (length s) n) (line-digits s place end e ∙ ap (line_from (run_of (drop place s) 10)) (drop_of_length-le s past) ∙ line-ended (run_of (drop place s) 10))) ∙ c.whole

pub counting-past : (s : List ℕ) (at place n : ℕ) → Counting s at place n → length s ≤ place → shape.Broken ≡ shape_at s at
counting-past s at place n c past = sym (ap (counted (length s) n) (ap line_on (drop_of_length-le s past) ∙ line-ended [])) ∙ c.whole

pub counting-not : (s : List ℕ) (at place n end : ℕ) (t : Bool) → Counting s at place n → end ≡ place + length (run_of (drop place s) 10) → end < length s
    → t ≡ is_number (run_of (drop place s) 10) → t ≡ false → shape.Broken ≡ shape_at s at
counting-not s at place n end t c e inside is fails =
    let made : line_on (drop place s) ≡ broken = line_after s place end e inside ∙ rw (sym is ∙ fails) in
    sym (ap (counted (length s) n) made) ∙ c.whole

pub counting-feed : (s : List ℕ) (at place n end : ℕ) (t : Bool) → Counting s at place n → end ≡ place + length (run_of (drop place s) 10) → end < length s
    → t ≡ is_number (run_of (drop place s) 10) → t ≡ true → get_or s end 0 ≡ 10 → shape.Line (n + 1) (end + 1) ≡ shape_at s at
counting-feed s at place n end t c e inside is holds feed =
    let made : line_on (drop place s) ≡ line (value_from 10 0 (run_of (drop place s) 10) ∷ []) (drop (end + 1) s) =
    line_after s place end e inside ∙ rw (sym is ∙ holds, eq-eqb (get_or s end 0) 10 feed) in
    let next : length s - length (drop (end + 1) s) ≡ end + 1 = omega (arith, length-drop (end + 1) s) in
    sym (ap (counted (length s) n) made ∙ ap (shape.Line (n + 1)) next) ∙ c.whole

pub counting-neither : (s : List ℕ) (at place n end : ℕ) (t : Bool) → Counting s at place n → end ≡ place + length (run_of (drop place s) 10) → end < length s
    → t ≡ is_number (run_of (drop place s) 10) → t ≡ true → (get_or s end 0 ≡ 10 → ⊥) → (get_or s end 0 ≡ 44 → ⊥) → shape.Broken ≡ shape_at s at
counting-neither s at place n end t c e inside is holds no-feed no-comma =
    let made : line_on (drop place s) ≡ broken = line_after s place end e inside ∙ rw (sym is ∙ holds, ne_eqb (get_or s end 0) 10 no-feed, ne_eqb (get_or s end 0) 44 no-comma) in
    sym (ap (counted (length s) n) made) ∙ c.whole

counted-more : (size n v : ℕ) (l : Line) → counted size n (before v l) ≡ counted size (n + 1) l
counted-more size n v (line ns rest) = ap (λ (k : ℕ). shape.Line k (size - length rest)) (omega arith)
counted-more size n v broken = refl

pub counting_more : (s : List ℕ) (at place n end : ℕ) (t : Bool) → Counting s at place n → end ≡ place + length (run_of (drop place s) 10) → end < length s
    → t ≡ is_number (run_of (drop place s) 10) → t ≡ true → get_or s end 0 ≡ 44 → Counting s at (end + 1) (n + 1)
counting_more s at place n end t c e inside is holds comma =
    let few = c.few in
    let no-feed : get_or s end 0 ≡ 10 → ⊥ = λ q. omega arith in
    let made : line_on (drop place s) ≡ before (value_from 10 0 (run_of (drop place s) 10)) (line_on (drop (end + 1) s)) =
    line_after s place end e inside ∙ rw (sym is ∙ holds, ne_eqb (get_or s end 0) 10 no-feed, eq-eqb (get_or s end 0) 44 comma) in
    record {
      few = omega arith;
      whole = sym (counted-more (length s) n (value_from 10 0 (run_of (drop place s) 10)) (line_on (drop (end + 1) s)))
          ∙ sym (ap (counted (length s) n) made)
          ∙ c.whole;
    }
