-- The run of digits at a place, byte by byte, and the number that it is worth.
use Prim.Native.Nat.{ℕ, ◌+◌, ◌*◌, ◌^◌, max, ◌≤◌, ◌<◌}
use native.Mathlib.Nat.{le_trans, le-mul_of_pos_right}
use native.Mathlib.Numerals.{add-one}
use native.Mathlib.Omega.{arith}
use mathlib.Core.Path.{◌≡◌, refl, ap, sym, ◌∙◌}
use mathlib.Core.List.{List, [], ◌∷◌}
use borrow.Author.Tests.{lt-ltb, le-ltb, leb-true, leb-false}
use lib.Dec.{ltb, leb}
use lib.ListN.{length, get_or, drop, drop_of_length-le}
use lib.Seq.{drop-cons}
use Rattle.laws.proofs.Cases.{tested}
use Rattle.laws.proofs.Pairs.{some-both}
use Rattle.text.specs.Parsed.{Is, Not}
use Rattle.text.specs.Digits.{worth, value_from}
use Rattle.text.specs.Reading.{run_of, value_at}

pub run_more : (s : List ℕ) (base i d : ℕ) → i < length s → d ≡ worth (get_or s i 0) → d < base
    → run_of (drop i s) base ≡ get_or s i 0 ∷ run_of (drop (i + 1) s) base
run_more s base i d h e k = rw (drop-cons s i 0 h, add-one) (rw (lt-ltb (worth (get_or s i 0)) base (omega arith), run_of))

pub run_end : (s : List ℕ) (base i d : ℕ) → i < length s → d ≡ worth (get_or s i 0) → base ≤ d → run_of (drop i s) base ≡ []
run_end s base i d h e k = rw (drop-cons s i 0 h) (rw (le-ltb (worth (get_or s i 0)) base (omega arith), run_of))

pub run_past : (s : List ℕ) (base i : ℕ) → length s ≤ i → run_of (drop i s) base ≡ []
run_past s base i h = rw (drop_of_length-le s h)

-- a loop that has read up to i, the value so far n: what is left is the whole's
pub record Upto (s : List ℕ) (base at i n : ℕ) : Type 0 where
  pub small : n < 2 ^ 64
  pub place : i + length (run_of (drop i s) base) ≡ at + length (run_of (drop at s) base)
  pub value : value_from base n (run_of (drop i s) base) ≡ value_from base 0 (run_of (drop at s) base)

pub upto-start : (s : List ℕ) (base at : ℕ) → Upto s base at at 0
upto-start s base at = record { small = omega arith; place = refl; value = refl }

pub upto-more : (s : List ℕ) (base at i n d p m : ℕ) → Upto s base at i n → i < length s → d ≡ worth (get_or s i 0) → d < base
    → p ≡ n * base → p + d < 2 ^ 64 → m ≡ p + d → Upto s base at (i + 1) m
upto-more s base at i n d p m u h e k product fits sum =
    let more : run_of (drop i s) base ≡ get_or s i 0 ∷ run_of (drop (i + 1) s) base = run_more s base i d h e k in
    let next : m ≡ n * base + worth (get_or s i 0) = cc in
    record {
      small = omega arith;
      place = omega (arith, u.place, ap length more);
      value = ap (λ (v : ℕ). value_from base v (run_of (drop (i + 1) s) base)) next
          ∙ sym (ap (value_from base n) more)
          ∙ u.value;
    }

read_whole : (s : List ℕ) (base at i n : ℕ) → Upto s base at i n → run_of (drop i s) base ≡ []
    → Is n i ≡ value_at (run_of (drop at s) base) at base
unfolding value_at
read_whole s base at i n u none =
    let v : n ≡ value_from base 0 (run_of (drop at s) base) = sym (ap (value_from base n) none) ∙ u.value in
    let p : i ≡ at + length (run_of (drop at s) base) = omega (arith, u.place, ap length none) in
    rw (← v, ← p, lt-ltb n (2 ^ 64) u.small)

value_grows : (base v : ℕ) (xs : List ℕ) → 0 < base → v ≤ value_from base v xs
value_grows base v [] h = omega arith
value_grows base v (x ∷ xs) h =
    le_trans (let k : v ≤ v * base = le-mul_of_pos_right v h in omega arith) (value_grows base (v * base + worth x) xs h)

pub read-over : (s : List ℕ) (base at i n d : ℕ) → Upto s base at i n → i < length s → d ≡ worth (get_or s i 0) → d < base
    → 2 ^ 64 ≤ n * base + d → Not ≡ value_at (run_of (drop at s) base) at base
unfolding value_at
read-over s base at i n d u h e k large =
    let more : run_of (drop i s) base ≡ get_or s i 0 ∷ run_of (drop (i + 1) s) base = run_more s base i d h e k in
    let v : value_from base (n * base + worth (get_or s i 0)) (run_of (drop (i + 1) s) base) ≡ value_from base 0 (run_of (drop at s) base) =
    sym (ap (value_from base n) more) ∙ u.value in
    let g : n * base + worth (get_or s i 0) ≤ value_from base 0 (run_of (drop at s) base) =
    rw v at (value_grows base (n * base + worth (get_or s i 0)) (run_of (drop (i + 1) s) base) (omega arith)) in
    rw (le-ltb (value_from base 0 (run_of (drop at s) base)) (2 ^ 64) (omega (arith, e)))

pub read-stop : (s : List ℕ) (base at i n d : ℕ) → Upto s base at i n → i < length s → d ≡ worth (get_or s i 0) → base ≤ d
    → Is n i ≡ value_at (run_of (drop at s) base) at base
read-stop s base at i n d u h e k = read_whole s base at i n u (run_end s base i d h e k)

-- a loop that begins past the end ends where it began
pub read_past : (s : List ℕ) (base at i n next : ℕ) → Upto s base at i n → at ≤ i → (at ≤ length s → i ≤ length s) → length s ≤ i
    → next ≡ max at (length s) → Is n next ≡ value_at (run_of (drop at s) base) at base
read_past s base at i n next u from within h e =
    let place : next ≡ i =
    tested (leb at (length s))
    (λ t. let inside : at ≤ length s = leb-true at (length s) t in omega (arith, within inside))
    (λ f. let beyond : length s < at = leb-false at (length s) f in
    omega (arith, u.place, ap length (run_past s base i h), ap length (run_past s base at (omega arith)))) in
    rw place (read_whole s base at i n u (run_past s base i h))

-- ---- a run that was read, as a decimal and as a hexadecimal number

pub run_is : (run : List ℕ) (at base n next : ℕ) → Is n next ≡ value_at run at base → (n ≡ value_from base 0 run) × (next ≡ at + length run)
unfolding value_at
run_is run at base n next e =
    tested (ltb (value_from base 0 run) (2 ^ 64))
    (λ t. some-both (e ∙ rw t))
    (λ f. let none : Is n next ≡ Not = e ∙ rw f in (cc, cc))

pub after-start : (run : List ℕ) (at base n next : ℕ) → Is n next ≡ value_at run at base → at ≤ next
after-start run at base n next e = let is = run_is run at base n next e in omega arith
