-- Digits are as many as are asked for, and stored one by one from the last to the first they are all of them.
use Prim.Native.Nat.{ℕ, zero, suc, ◌+◌, ◌-◌, ◌/◌, ◌%◌, ◌≤◌, ◌<◌}
use native.Mathlib.Nat.{mod-lt}
use native.Mathlib.Numerals.{add-one}
use native.Mathlib.Omega.{arith}
use mathlib.Core.Path.{◌≡◌, refl, ap, ◌∙◌}
use mathlib.Core.List.{List, [], ◌∷◌, ◌++◌, append-nil}
use lib.ListN.{length, set, length-append, drop_of_length-le}
use lib.Seq.{sets, sets-eq}
use Rattle.laws.proofs.Lists.{sets_last}
use Rattle.text.specs.Digits.{glyph, digits}

pub length_digits : (base k n : ℕ) → length (digits base k n) ≡ k
length_digits base zero n = refl
length_digits base (suc k) n = length-append (digits base k (n / base)) (glyph (n % base) ∷ []) ∙ add-one _ ∙ ap suc (length_digits base k (n / base))

pub spell-all : (out : List ℕ) (n base : ℕ) → sets out 0 (digits base (length out) n) ≡ digits base (length out) n
spell-all out n base =
    let size = length_digits base (length out) n in
    sets-eq (digits base (length out) n) out 0 (omega arith)
    ∙ ap (λ (l : List ℕ). digits base (length out) n ++ l) (drop_of_length-le out {i = 0 + length (digits base (length out) n)} (omega arith))
    ∙ append-nil (digits base (length out) n)

pub spell-more : (out whole : List ℕ) (i n base d : ℕ) → sets out 0 (digits base i n) ≡ whole → 0 < i → d ≡ glyph (n % base)
    → sets (set out (i - 1) d) 0 (digits base (i - 1) (n / base)) ≡ whole
spell-more out whole zero n base d e h g = elim h [ ]
spell-more out whole (suc i) n base d e h g =
    let size : i ≡ 0 + length (digits base i (n / base)) = omega (arith, length_digits base i (n / base)) in
    let less : suc i - 1 ≡ i = omega arith in
    rw (less, g)
    (ap (λ (k : ℕ). sets (set out k (glyph (n % base))) 0 (digits base i (n / base))) size
    ∙ sets_last out (digits base i (n / base)) 0 (glyph (n % base))
    ∙ e)

pub digit-below : (n base : ℕ) → 1 < base → base ≤ 16 → n % base < 16
digit-below n base h k = let m : n % base < base = mod-lt n (omega arith) in omega arith
