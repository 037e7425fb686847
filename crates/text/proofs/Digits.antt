-- A decimal is one digit, or that of the tens and the last digit; it is the digits of its number, and worth it.
-- So no two numbers have the same decimal, and a decimal and a word in hexadecimal read back as they were written.
use Prim.Native.Nat.{ℕ, zero, suc, ◌+◌, ◌-◌, ◌*◌, ◌/◌, ◌%◌, ◌^◌, max, ◌≤◌, ◌<◌}
use native.Mathlib.Nat.{mod-eq_of_lt, mod-lt, div-add-mod', div-lt_iff_lt-mul, pow-zero, pow-suc}
use native.Mathlib.Numerals.{add-one}
use native.Mathlib.Omega.{arith}
use mathlib.Core.Path.{◌≡◌, refl, ap, sym, subst, ◌∙◌}
use mathlib.Core.List.{List, [], ◌∷◌, ◌++◌, append_assoc, append-nil}
use borrow.Author.Tests.{lt-ltb, le-ltb, ltb-true, ltb-false, eq-eqb}
use lib.Dec.{ltb}
use lib.ListN.{length, drop, length-append}
use lib.Seq.{drop-append_seam}
use Rattle.std.specs.Prelude.{Option}
use Rattle.laws.proofs.Cases.{tested}
use Rattle.text.specs.Digits.{glyph, worth, digits, decimal_in, decimal_of, value_from}
use Rattle.text.specs.Reading.{run_of, value_at, decimal_at, hex_at}
use Rattle.text.specs.Parsed.{Is}
use Rattle.text.specs.Writing.{WrittenTold}
use Rattle.text.proofs.Writing.{digit-below, length_digits}

-- more steps than the number change nothing
decimal-steps-enough : (s t n : ℕ) → n < s → n < t → decimal_in s n ≡ decimal_in t n
decimal-steps-enough zero t n h k = absurd (omega arith)
decimal-steps-enough (suc s) zero n h k = absurd (omega arith)
decimal-steps-enough (suc s) (suc t) n h k =
    tested (ltb n 10)
    (λ y. rw (y, decimal_in))
    (λ y.
    let large : 10 ≤ n = ltb-false n 10 y in
    rw (y, decimal_in) (ap (λ (l : List ℕ). l ++ (glyph (n % 10) ∷ [])) (decimal-steps-enough s t (n / 10) (omega arith) (omega arith))))

pub decimal-short : (n : ℕ) → n < 10 → decimal_of n ≡ glyph n ∷ []
unfolding decimal_of
decimal-short n h = rw (lt-ltb n 10 h, decimal_in)

pub decimal-long : (n : ℕ) → 10 ≤ n → decimal_of n ≡ decimal_of (n / 10) ++ (glyph (n % 10) ∷ [])
unfolding decimal_of
decimal-long n h =
    rw (le-ltb n 10 h, decimal_in)
    (ap (λ (l : List ℕ). l ++ (glyph (n % 10) ∷ [])) (decimal-steps-enough n (suc (n / 10)) (n / 10) (omega arith) (omega arith)))

pub places-short : (n : ℕ) → n < 10 → length (decimal_of n) ≡ 1
places-short n h = rw (decimal-short n h)

pub places-long : (n : ℕ) → 10 ≤ n → length (decimal_of n) ≡ suc (length (decimal_of (n / 10)))
places-long n h = ap length (decimal-long n h) ∙ length-append (decimal_of (n / 10)) (glyph (n % 10) ∷ []) ∙ add-one _

tens-some : (k : ℕ) → 1 ≤ 10 ^ k
tens-some zero = omega (arith, pow-zero 10)
tens-some (suc k) = omega (arith, pow-suc 10 k, tens-some k)

-- at least a power of ten, and below the next; nought has one digit, as one has
pub places-power : (k n m : ℕ) → m ≡ max n 1 → 10 ^ k ≤ m → m < 10 * 10 ^ k → k + 1 ≡ length (decimal_of n)
places-power zero n m e h g = let one = pow-zero 10 in omega (arith, places-short n (omega arith))
places-power (suc k) n m e h g =
    let power = pow-suc 10 k in
    let some = tens-some k in
    let large : 10 ≤ n = omega arith in
    let rest = places-power k (n / 10) (max (n / 10) 1) refl (omega arith) (omega arith) in
    omega (arith, places-long n large)

-- a number below a power of ten
tens-below : (n m : ℕ) → n < m * 10 → n / 10 < m
tens-below n m h = omega arith

pub digits-most : (k n : ℕ) → n < 10 ^ suc k → length (decimal_of n) ≤ suc k
digits-most zero n h = omega (arith, places-short n h)
digits-most (suc k) n h =
    tested (ltb n 10)
    (λ t. omega (arith, places-short n (ltb-true n 10 t)))
    (λ f.
    let rest = digits-most k (n / 10) (tens-below n (10 ^ suc k) (rw (pow-suc 10 (suc k)) at h)) in
    omega (arith, places-long n (ltb-false n 10 f)))

-- what holds of a number below ten, and of any other if it holds of its tens
pub by-tens : (P : ℕ → Type 0) → ((n : ℕ) → n < 10 → P n) → ((n : ℕ) → 10 ≤ n → P (n / 10) → P n) → (s n : ℕ) → n < s → P n
by-tens P short long zero n h = absurd (omega arith)
by-tens P short long (suc s) n h =
    tested (ltb n 10)
    (λ y. short n (ltb-true n 10 y))
    (λ y.
    let large : 10 ≤ n = ltb-false n 10 y in
    long n large (by-tens P short long s (n / 10) (omega arith)))

pub decimal-digits : (n : ℕ) → digits 10 (length (decimal_of n)) n ≡ decimal_of n
decimal-digits n =
    by-tens (λ (n : ℕ). digits 10 (length (decimal_of n)) n ≡ decimal_of n)
    (λ n h. rw (decimal-short n h) (ap (λ (d : ℕ). glyph d ∷ []) (mod-eq_of_lt h)))
    (λ n h tens. rw (places-long n h) (ap (λ (l : List ℕ). l ++ (glyph (n % 10) ∷ [])) tens ∙ sym (decimal-long n h)))
    (suc n) n (omega arith)

pub wrote-decimal : (before after : List ℕ) (at k n : ℕ) (r : Option ℕ) → WrittenTold before at (digits 10 k n) r after → k ≡ length (decimal_of n)
    → WrittenTold before at (decimal_of n) r after
wrote-decimal before after at k n r w e =
    subst (λ (text : List ℕ). WrittenTold before at text r after) (ap (λ (k : ℕ). digits 10 k n) e ∙ decimal-digits n) w

-- ---- worth

pub value-last : (base v : ℕ) (xs : List ℕ) (b : ℕ) → value_from base v (xs ++ (b ∷ [])) ≡ value_from base v xs * base + worth b
value-last base v [] b = refl
value-last base v (x ∷ xs) b = value-last base (v * base + worth x) xs b

pub worth-glyph : (d : ℕ) → d < 16 → worth (glyph d) ≡ d
unfolding worth glyph
worth-glyph d h =
    tested (ltb d 10)
    (λ y.
    let small : d < 10 = ltb-true d 10 y in
    rw (y, le-ltb (48 + d) 48 (omega arith), lt-ltb (48 + d) 58 (omega arith)) (omega arith))
    (λ y.
    let large : 10 ≤ d = ltb-false d 10 y in
    rw (y, le-ltb (87 + d) 48 (omega arith), le-ltb (87 + d) 58 (omega arith), le-ltb (87 + d) 97 (omega arith), lt-ltb (87 + d) 103 (omega arith)) (omega arith))

pub worth-below : (b : ℕ) → b < 48 → 16 ≡ worth b
unfolding worth
worth-below b h = rw (lt-ltb b 48 h)

pub worth-figure : (b : ℕ) → 48 ≤ b → b < 58 → b - 48 ≡ worth b
unfolding worth
worth-figure b h k = rw (le-ltb b 48 h, lt-ltb b 58 k)

pub worth-between : (b : ℕ) → 58 ≤ b → b < 97 → 16 ≡ worth b
unfolding worth
worth-between b h k = rw (le-ltb b 48 (omega arith), le-ltb b 58 h, lt-ltb b 97 k)

pub worth-letter : (b : ℕ) → 97 ≤ b → b < 103 → b - 87 ≡ worth b
unfolding worth
worth-letter b h k = rw (le-ltb b 48 (omega arith), le-ltb b 58 (omega arith), le-ltb b 97 h, lt-ltb b 103 k)

pub worth-above : (b : ℕ) → 103 ≤ b → 16 ≡ worth b
unfolding worth
worth-above b h = rw (le-ltb b 48 (omega arith), le-ltb b 58 (omega arith), le-ltb b 97 (omega arith), le-ltb b 103 h)

-- a decimal reads as its number, so no two numbers have the same
pub decimal-value : (n : ℕ) → value_from 10 0 (decimal_of n) ≡ n
decimal-value n =
    by-tens (λ (n : ℕ). value_from 10 0 (decimal_of n) ≡ n)
    (λ n h. rw (decimal-short n h, worth-glyph n (omega arith)) (omega arith))
    (λ n h tens.
    rw (decimal-long n h, value-last 10 0 (decimal_of (n / 10)) (glyph (n % 10)), worth-glyph (n % 10) (omega arith), tens)
    (div-add-mod' n 10))
    (suc n) n (omega arith)

pub decimal-number : (m n : ℕ) → decimal_of m ≡ decimal_of n → m ≡ n
decimal-number m n e = sym (decimal-value m) ∙ ap (value_from 10 0) e ∙ decimal-value n

-- ---- reading back

pub run-digit : (base d : ℕ) (rest : List ℕ) → base ≤ 16 → d < base → run_of (glyph d ∷ rest) base ≡ glyph d ∷ run_of rest base
run-digit base d rest b h = rw (worth-glyph d (omega arith), run_of) (rw (lt-ltb d base h))

run-digits : (base k n : ℕ) (rest : List ℕ) → 1 < base → base ≤ 16 → run_of (digits base k n ++ rest) base ≡ digits base k n ++ run_of rest base
run-digits base zero n rest a b = refl
run-digits base (suc k) n rest a b =
    rw (append_assoc, append_assoc)
    (run-digits base k (n / base) (glyph (n % base) ∷ rest) a b
    ∙ ap (λ (l : List ℕ). digits base k (n / base) ++ l) (run-digit base (n % base) rest b (mod-lt n (omega arith))))

pub run-decimal : (n : ℕ) (rest : List ℕ) → run_of (decimal_of n ++ rest) 10 ≡ decimal_of n ++ run_of rest 10
run-decimal n rest = rw (decimal-digits n) at (run-digits 10 (length (decimal_of n)) n rest (omega arith) (omega arith))

-- a decimal that stands at a place, with no digit after it, reads as its number and the place after it
pub decimal-back : (before rest : List ℕ) (n : ℕ) → n < 2 ^ 64 → run_of rest 10 ≡ []
    → decimal_at (before ++ (decimal_of n ++ rest)) (length before) ≡ Is n (length before + length (decimal_of n))
unfolding decimal_at value_at
decimal-back before rest n small none =
    let run : run_of (drop (length before) (before ++ (decimal_of n ++ rest))) 10 ≡ decimal_of n =
    rw (drop-append_seam before (decimal_of n ++ rest)) (run-decimal n rest ∙ rw none (append-nil (decimal_of n))) in
    rw (run, decimal-value n, eq-eqb (length (decimal_of n)) (length (decimal_of n)) refl, lt-ltb n (2 ^ 64) small)

value-digits : (base k n : ℕ) → 1 < base → base ≤ 16 → n < base ^ k → value_from base 0 (digits base k n) ≡ n
value-digits base zero n a b h = let k : n < 1 = rw (pow-zero base) at h in omega arith
value-digits base (suc k) n a b h =
    let below : n / base < base ^ k = (div-lt_iff_lt-mul {k = base} (omega arith)).1 (rw (pow-suc base k) at h) in
    let last : n % base < 16 = digit-below n base a b in
    value-last base 0 (digits base k (n / base)) (glyph (n % base))
    ∙ rw (value-digits base k (n / base) a b below, worth-glyph (n % base) last) (div-add-mod' n base)

-- so does a word in sixteen hexadecimal digits
pub word_back : (before rest : List ℕ) (n : ℕ) → n < 2 ^ 64 → run_of rest 16 ≡ []
    → hex_at (before ++ (digits 16 16 n ++ rest)) (length before) ≡ Is n (length before + 16)
unfolding hex_at value_at
word_back before rest n small none =
    let run : run_of (drop (length before) (before ++ (digits 16 16 n ++ rest))) 16 ≡ digits 16 16 n =
    rw (drop-append_seam before (digits 16 16 n ++ rest)) (run-digits 16 16 n rest (omega arith) (omega arith) ∙ rw none (append-nil (digits 16 16 n))) in
    rw (run, length_digits 16 16 n, value-digits 16 16 n (omega arith) (omega arith) small, lt-ltb n (2 ^ 64) small)
