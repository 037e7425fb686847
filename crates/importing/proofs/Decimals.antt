-- Digits that are a number are the decimal of what they are worth, and a decimal is such digits.
use Prim.Native.Nat.{ℕ, suc, ◌+◌, ◌*◌, ◌/◌, ◌%◌, ◌≤◌, ◌<◌}
use mathlib.Core.Path.{◌≡◌, refl, sym, ap, ◌∙◌}
use mathlib.Core.Bool.{true, false, false≢true}
use mathlib.Core.List.{List, [], ◌∷◌, ◌++◌, append_assoc, append-nil}
use native.Mathlib.Numerals.{add-one}
use native.Mathlib.Omega.{arith}
use borrow.Author.Tests.{lt-ltb, ltb-true, ltb-false}
use lib.Dec.{ltb}
use lib.ListN.{length, get_or, get_or-append}
use Rattle.laws.proofs.Cases.{tested}
use Rattle.text.specs.Digits.{glyph, worth, digits, decimal_of, value_from}
use Rattle.text.specs.Reading.{run_of}
use Rattle.text.proofs.Digits.{decimal-short, decimal-long, places-short, places-long, by-tens, decimal-digits, run-decimal, worth-below, worth-figure}
use Rattle.importing.specs.Lines.{is_number}
use Rattle.importing.proofs.Shaping.{digit-high}

abbrev pub AllDigits : List ℕ → Type 0
AllDigits [] = Unit
AllDigits (b ∷ bs) = (worth b < 10) × AllDigits bs

pub digits_last : (run : List ℕ) (b : ℕ) → AllDigits run → worth b < 10 → AllDigits (run ++ (b ∷ []))
digits_last [] b all h = (h, tt)
digits_last (x ∷ run) b all h = (all.0, digits_last run b all.1 h)

figure : (b : ℕ) → worth b < 10 → (48 ≤ b) × (b ≤ 57)
figure b h =
    tested (ltb b 48)
    (λ y. absurd (omega (arith, worth-below b (ltb-true b 48 y))))
    (λ y.
    let low : 48 ≤ b = ltb-false b 48 y in
    tested (ltb 57 b)
    (λ z. absurd (omega (arith, digit-high b (ltb-true 57 b z))))
    (λ z. (low, ltb-false 57 b z)))

glyph-worth : (b : ℕ) → worth b < 10 → glyph (worth b) ≡ b
unfolding glyph
glyph-worth b h =
    let f = figure b h in
    let low = f.0 in
    let high = f.1 in
    let w = worth-figure b low (omega arith) in
    rw (lt-ltb (worth b) 10 h) (omega arith)

-- ---- as many places as digits

places-more : (v d : ℕ) → 0 < v → d < 10 → length (decimal_of (v * 10 + d)) ≡ length (decimal_of v) + 1
places-more v d some h =
    let tens : (v * 10 + d) / 10 ≡ v = omega arith in
    places-long (v * 10 + d) (omega arith) ∙ ap (λ (n : ℕ). suc (length (decimal_of n))) tens ∙ sym (add-one _)

places-value : (bs : List ℕ) (v : ℕ) → AllDigits bs → 0 < v → length (decimal_of (value_from 10 v bs)) ≡ length (decimal_of v) + length bs
places-value [] v all some = omega arith
places-value (b ∷ bs) v all some =
    let d : worth b < 10 = all.0 in
    omega (arith, places-value bs (v * 10 + worth b) all.1 (omega arith), places-more v (worth b) some d)

-- the digits of a value, after those of what came before
digits_value : (bs : List ℕ) (k v : ℕ) → AllDigits bs → digits 10 (length bs + k) (value_from 10 v bs) ≡ digits 10 k v ++ bs
digits_value [] k v all = let none : 0 + k ≡ k = omega arith in rw none (sym (append-nil (digits 10 k v)))
digits_value (b ∷ bs) k v all =
    let d : worth b < 10 = all.0 in
    let more : suc (length bs) + k ≡ length bs + suc k = omega arith in
    let tens : (v * 10 + worth b) / 10 ≡ v = omega arith in
    let last : (v * 10 + worth b) % 10 ≡ worth b = omega arith in
    ap (λ (n : ℕ). digits 10 n (value_from 10 (v * 10 + worth b) bs)) more
    ∙ digits_value bs (suc k) (v * 10 + worth b) all.1
    ∙ rw (tens, last, glyph-worth b d) (append_assoc (digits 10 k v) (b ∷ []) bs)

decimal-long-is : (run : List ℕ) → AllDigits run → length (decimal_of (value_from 10 0 run)) ≡ length run → decimal_of (value_from 10 0 run) ≡ run
decimal-long-is run all long =
    let w = value_from 10 0 run in
    let same : length run + 0 ≡ length (decimal_of w) = omega (arith, long) in
    sym (decimal-digits w) ∙ ap (λ (n : ℕ). digits 10 n w) (sym same) ∙ digits_value run 0 0 all

pub decimal-is : (run : List ℕ) → AllDigits run → is_number run ≡ true → decimal_of (value_from 10 0 run) ≡ run
decimal-is [] all is = absurd (false≢true is)
decimal-is (d ∷ []) all is =
    let h : worth d < 10 = all.0 in
    let none : 0 * 10 + worth d ≡ worth d = omega arith in
    rw none (decimal-short (worth d) h ∙ ap (λ (b : ℕ). b ∷ []) (glyph-worth d h))
decimal-is (d ∷ e ∷ ds) all is =
    let h : worth d < 10 = all.0 in
    let f = figure d h in
    let some : 48 < d = ltb-true 48 d is in
    let low = f.0 in
    let high = f.1 in
    let w = worth-figure d low (omega arith) in
    let one : length (decimal_of (0 * 10 + worth d)) ≡ 1 = places-short (0 * 10 + worth d) (omega arith) in
    decimal-long-is (d ∷ e ∷ ds) all (omega (arith, one, places-value (e ∷ ds) (0 * 10 + worth d) all.1 (omega arith)))

-- ---- a decimal

pub decimal-some : (n : ℕ) → 1 ≤ length (decimal_of n)
decimal-some n =
    tested (ltb n 10)
    (λ y. omega (arith, places-short n (ltb-true n 10 y)))
    (λ y. omega (arith, places-long n (ltb-false n 10 y)))

glyph-first : (n : ℕ) → n < 10 → 0 < n → 48 < glyph n
unfolding glyph
glyph-first n h some = rw (lt-ltb n 10 h) (omega arith)

decimal-first : (n : ℕ) → 0 < n → 48 < get_or (decimal_of n) 0 0
decimal-first n =
    by-tens (λ (n : ℕ). (0 < n → 48 < get_or (decimal_of n) 0 0))
    (λ n h some. rw (decimal-short n h) (glyph-first n h some))
    (λ n h tens some.
    let rest = tens (omega arith) in
    rw (decimal-long n h, get_or-append (decimal_of (n / 10)) (glyph (n % 10) ∷ []) 0 0 (decimal-some (n / 10))) rest)
    (suc n) n (omega arith)

number-from : (run : List ℕ) → 1 ≤ length run → 48 < get_or run 0 0 → is_number run ≡ true
number-from [] some first = absurd (omega arith)
number-from (d ∷ []) some first = refl
number-from (d ∷ e ∷ ds) some first = lt-ltb 48 d first

pub decimal-number-is : (n : ℕ) → is_number (decimal_of n) ≡ true
decimal-number-is n =
    tested (ltb 0 n)
    (λ y. number-from (decimal_of n) (decimal-some n) (decimal-first n (ltb-true 0 n y)))
    (λ y. let none : n ≡ 0 = omega (arith, ltb-false 0 n y) in rw (none, decimal-short 0 (omega arith)))

-- before a byte that is no digit
pub run-number : (n b : ℕ) (rest : List ℕ) → ltb (worth b) 10 ≡ false → run_of (decimal_of n ++ (b ∷ rest)) 10 ≡ decimal_of n
run-number n b rest h = run-decimal n (b ∷ rest) ∙ rw (h, run_of) (append-nil (decimal_of n))
