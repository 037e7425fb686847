-- Measures in one word: what a word says, and that words add up as what they measure does.
use Prim.Native.Nat.{ℕ, ◌+◌, ◌*◌, ◌/◌, ◌%◌, ◌≤◌, ◌<◌}
use mathlib.Core.Path.{◌≡◌, refl, ap, ap₂, ◌∙◌}
use mathlib.Core.Bool.{Bool, true, false, cond}
use native.Mathlib.Omega.{arith}
use native.Mathlib.Decide.{dec_lt}
use borrow.Author.Tests.{leb-true, le-leb, lt-leb, eqb-true, eqb-false}
use lib.Dec.{leb, eqb}
use Rattle.kind.specs.Limits.{most_terms}
use Rattle.expansion.specs.inner.Measuring.{Measured}
use Rattle.expansion.specs.inner.Measuring.{Fits}
use Rattle.expansion.specs.inner.Measuring.{plus, group_of, SmallMeasure, one_term, over_word, word_of, Unpacked}
use Rattle.expansion.proofs.MeasureSizes.{small-terms, small_bytes, small-fits, small-over, plus-over}
use Rattle.std.specs.Prelude.{None}

pub word-most : (m : Measured) → SmallMeasure m → word_of m ≤ over_word
unfolding word_of
word-most (Fits a b) s = let h = small-terms (Fits a b) s a b refl in let k = small_bytes (Fits a b) s a b refl in omega arith
word-most None s = omega arith

pub unpacked-fits : (word : ℕ) → word < over_word → Unpacked word (Fits (word / one_term) (word % one_term))
unfolding word_of
unpacked-fits word under = record { only = at }
  where
    at : (m : Measured) → SmallMeasure m → word ≡ word_of m → Fits (word / one_term) (word % one_term) ≡ m
    at (Fits a b) s e = let h = small-terms (Fits a b) s a b refl in let k = small_bytes (Fits a b) s a b refl in ap₂ Fits (omega arith) (omega arith)
    at None s e = absurd (omega arith)

pub unpacked-over : (word : ℕ) → over_word ≤ word → Unpacked word None
unfolding word_of
unpacked-over word above = record { only = at }
  where
    at : (m : Measured) → SmallMeasure m → word ≡ word_of m → None ≡ m
    at (Fits a b) s e = let h = small-terms (Fits a b) s a b refl in let k = small_bytes (Fits a b) s a b refl in absurd (omega arith)
    at None s e = refl

-- two words
pub plus-small : (m n : Measured) → SmallMeasure m → SmallMeasure n → SmallMeasure (plus m n)
unfolding plus
plus-small None n s t = small-over
plus-small (Fits a b) None s t = small-over
plus-small (Fits a b) (Fits c d) s t = at (leb (a + c) most_terms) refl
  where
    at : (v : Bool) → leb (a + c) most_terms ≡ v → SmallMeasure (cond v (Fits (a + c) (b + d)) None)
    at true e = let h = leb-true (a + c) most_terms e in let u = small_bytes (Fits a b) s a b refl in let v = small_bytes (Fits c d) t c d refl in small-fits (a + c) (b + d) h (omega arith)
    at false e = small-over

pub plus-words : (m n : Measured) → SmallMeasure m → SmallMeasure n → word_of m + word_of n < over_word → word_of (plus m n) ≡ word_of m + word_of n
unfolding plus word_of
plus-words None n s t h = absurd (omega arith)
plus-words (Fits a b) None s t h = absurd (omega arith)
plus-words (Fits a b) (Fits c d) s t h =
    let few : a + c ≤ most_terms = omega arith in
    ap (λ (v : Bool). word_of (cond v (Fits (a + c) (b + d)) None)) (le-leb (a + c) most_terms few) ∙ omega arith

pub plus-words-over : (m n : Measured) → SmallMeasure m → SmallMeasure n → over_word ≤ word_of m + word_of n → plus m n ≡ None
unfolding plus word_of
plus-words-over None n s t h = refl
plus-words-over (Fits a b) None s t h = refl
plus-words-over (Fits a b) (Fits c d) s t h =
    let a-few = small-terms (Fits a b) s a b refl in
    let c-few = small-terms (Fits c d) t c d refl in
    let b-few = small_bytes (Fits a b) s a b refl in
    let d-few = small_bytes (Fits c d) t c d refl in
    let many : most_terms < a + c = omega arith in
    ap (λ (v : Bool). cond v (Fits (a + c) (b + d)) None) (lt-leb (a + c) most_terms many)

-- a word, and that of one branch for each of its group
module _ (m one : Measured) (s : SmallMeasure m) (t : SmallMeasure one) (w : ℕ) (wide : (w ≡ 2 → ⊥) → w ≡ 1) where
  pub group-small : SmallMeasure (plus m (group_of w one))
  group-small = at (eqb w 2)
    where
      at : (v : Bool) → SmallMeasure (plus m (cond v (plus one one) one))
      at true = plus-small m (plus one one) s (plus-small one one t t)
      at false = plus-small m one s t

  pub group-words : word_of m + w * word_of one < over_word → word_of (plus m (group_of w one)) ≡ word_of m + w * word_of one
  group-words h = at (eqb w 2) refl
    where
      at : (v : Bool) → eqb w 2 ≡ v → word_of (plus m (cond v (plus one one) one)) ≡ word_of m + w * word_of one
      at true e =
          let two = eqb-true w 2 e in
          let both : w * word_of one ≡ word_of one + word_of one = ap (λ (n : ℕ). n * word_of one) two ∙ omega arith in
          let pair = plus-words one one t t (omega arith) in
          plus-words m (plus one one) s (plus-small one one t t) (omega arith) ∙ omega arith
      at false e =
          let same : w * word_of one ≡ word_of one = ap (λ (n : ℕ). n * word_of one) (wide (eqb-false w 2 e)) ∙ omega arith in
          plus-words m one s t (omega arith) ∙ omega arith

  pub group-over : over_word ≤ word_of m + w * word_of one → plus m (group_of w one) ≡ None
  group-over h = at (eqb w 2) refl
    where
      pair-over : over_word ≤ word_of m + (word_of one + word_of one) → Dec (word_of one + word_of one < over_word) → plus m (plus one one) ≡ None
      pair-over g (yes l) = let pair = plus-words one one t t l in plus-words-over m (plus one one) s (plus-small one one t t) (omega arith)
      pair-over g (no l) = ap (plus m) (plus-words-over one one t t (omega arith)) ∙ plus-over m

      at : (v : Bool) → eqb w 2 ≡ v → plus m (cond v (plus one one) one) ≡ None
      at true e =
          let two = eqb-true w 2 e in
          let both : w * word_of one ≡ word_of one + word_of one = ap (λ (n : ℕ). n * word_of one) two ∙ omega arith in
          pair-over (omega arith) (dec_lt (word_of one + word_of one) over_word)
      at false e =
          let same : w * word_of one ≡ word_of one = ap (λ (n : ℕ). n * word_of one) (wide (eqb-false w 2 e)) ∙ omega arith in
          plus-words-over m one s t (omega arith)
