-- The functions of src/ends.rt: a law for each loop's first turn, its further turns and its ends.
use Prim.Native.Nat.{ℕ, zero, suc, zero-le, ◌+◌, ◌-◌, ◌≤◌, ◌<◌}
use mathlib.Core.Path.{◌≡◌, refl, ap, ap₂, ◌∙◌}
use mathlib.Core.Bool.{Bool, true, false, cond}
use mathlib.Core.List.{List, ◌∷◌}
use native.Mathlib.Omega.{arith}
use borrow.Author.Tests.{lt-ltb, le-ltb}
use lib.Dec.{ltb}
use lib.ListN.{length, get_or, drop}
use Rattle.laws.proofs.Counting.{left_one, left-none}
use Rattle.laws.proofs.Lists.{drop_head}
use Rattle.form2.specs.Bytes.{shared}
use Rattle.salvaging.specs.declared.forms.Form.{Form}
use Rattle.salvaging.specs.inner.Ends.{behind, until_last, count_at, end_at, Whole, ends_within}

-- ---- a term's end

pub until-high : (b : ℕ) (s : List ℕ) → 128 ≤ b → until_last (b ∷ s) ≡ suc (until_last s)
unfolding until_last
until-high b s high = rw (le-ltb b 128 high)

pub until-low : (b : ℕ) (s : List ℕ) → b < 128 → until_last (b ∷ s) ≡ 0
unfolding until_last
until-low b s low = rw (lt-ltb b 128 low)

-- the scale's last byte is where it was
pub record Scale (s : List ℕ) (at place : ℕ) : Type 0 where
  pub last : place + until_last (drop place s) ≡ at + until_last (drop at s)

pub scale-first : (s : List ℕ) (at : ℕ) → Scale s at at
scale-first s at = record { last = refl }

module _ (n : ℕ) (s : List ℕ) (at place : ℕ) (inside : end_at n s at ≤ length s) (run : Scale s at place) where
  pub scale-inside : place < length s
  unfolding end_at count_at
  scale-inside = omega (arith, inside, run.last)

  pub scale-more : 128 ≤ get_or s place 0 → Scale s at (place + 1)
  scale-more high =
      let one = ap until_last (drop_head s place (get_or s place 0) scale-inside refl) ∙ until-high (get_or s place 0) (drop (place + 1) s) high in
      record { last = omega (arith, run.last, one) }

  pub scale-less : 128 ≤ get_or s place 0 → until_last (drop (place + 1) s) < until_last (drop place s)
  scale-less high =
      let one = ap until_last (drop_head s place (get_or s place 0) scale-inside refl) ∙ until-high (get_or s place 0) (drop (place + 1) s) high in
      omega (arith, one)

  pub scale-count : get_or s place 0 < 128 → place + n ≡ count_at n s at
  unfolding count_at
  scale-count low =
      let one = ap until_last (drop_head s place (get_or s place 0) scale-inside refl) ∙ until-low (get_or s place 0) (drop (place + 1) s) low in
      omega (arith, run.last, one)

  pub count_room : get_or s place 0 < 128 → place + n + 1 + get_or s (place + n) 0 ≤ length s
  unfolding end_at
  count_room low = rw (scale-count low) inside

  pub scale-end : get_or s place 0 < 128 → (b : ℕ) → b ≡ get_or s (place + n) 0 → place + n + 1 + b ≡ end_at n s at
  unfolding end_at
  scale-end low b is = rw is (ap (λ (m : ℕ). m + 1 + get_or s m 0) (scale-count low))

-- ---- terms that end within a place

pub turn : (n : ℕ) (s : List ℕ) (most at left : ℕ) (b : Bool) → ltb most (end_at n s at) ≡ b → ends_within n s most at (suc left) ≡ cond b 0 (suc (ends_within n s most (end_at n s at) left))
unfolding ends_within
turn n s most at left b e = rw e

pub none_left : (n : ℕ) (s : List ℕ) (most at : ℕ) → ends_within n s most at 0 ≡ 0
unfolding ends_within
none_left n s most at = refl

whole-first : (n : ℕ) (s : List ℕ) (at left : ℕ) → Whole n s at (suc left) → (end_at n s at ≤ length s) × Whole n s (end_at n s at) left
unfolding Whole
whole-first n s at left w = w

-- so many end within, and of those that are left as many as further on
pub record Ending (n : ℕ) (s : List ℕ) (most terms place count : ℕ) : Type 0 where
  pub within : count ≤ terms
  pub whole : Whole n s place (terms - count)
  pub all : ends_within n s most 0 terms ≡ count + ends_within n s most place (terms - count)

pub ending-first : (n : ℕ) (s : List ℕ) (most terms : ℕ) → Whole n s 0 terms → Ending n s most terms 0 0
ending-first n s most terms whole = let same : terms - 0 ≡ terms = omega arith in record { within = zero-le; whole = rw same whole; all = rw same (omega arith) }

module _ (n : ℕ) (s : List ℕ) (most terms place count : ℕ) (e : Ending n s most terms place count) where
  next : count < terms → Whole n s place (suc (terms - (count + 1)))
  next less = rw (left_one terms count less) at e.whole

  pub ending-inside : count < terms → end_at n s place ≤ length s
  ending-inside less = (whole-first n s place (terms - (count + 1)) (next less)).0

  turned : count < terms → (b : Bool) → ltb most (end_at n s place) ≡ b → ends_within n s most 0 terms ≡ count + cond b 0 (suc (ends_within n s most (end_at n s place) (terms - (count + 1))))
  turned less b test = e.all ∙ ap (λ (m : ℕ). count + ends_within n s most place m) (left_one terms count less) ∙ ap (λ (m : ℕ). count + m) (turn n s most place (terms - (count + 1)) b test)

  pub ending-past : (end : ℕ) → count < terms → end ≡ end_at n s place → most < end → count ≡ ends_within n s most 0 terms
  ending-past end less is past = let t = turned less true (lt-ltb most (end_at n s place) (omega arith)) in omega (arith, t)

  pub ending-more : (end : ℕ) → count < terms → end ≡ end_at n s place → end ≤ most → Ending n s most terms end (count + 1)
  ending-more end less is short =
      let t = turned less false (le-ltb most (end_at n s place) (omega arith)) in
      rw is (record { within = omega arith; whole = (whole-first n s place (terms - (count + 1)) (next less)).1; all = omega (arith, t) })

  pub ending-done : terms ≤ count → terms ≡ ends_within n s most 0 terms
  ending-done done =
      let none = e.all ∙ ap (λ (m : ℕ). count + ends_within n s most place m) (left-none terms count done) in
      omega (arith, none, none_left n s most place, e.within)

pub ends-few : (n : ℕ) (s : List ℕ) (most at left : ℕ) → ends_within n s most at left ≤ left
unfolding ends_within
ends-few n s most at zero = zero-le
ends-few n s most at (suc left) = by (ltb most (end_at n s at)) (ends-few n s most (end_at n s at) left)
  where
    by : (b : Bool) → ends_within n s most (end_at n s at) left ≤ left → cond b 0 (suc (ends_within n s most (end_at n s at) left)) ≤ suc left
    by true rest = zero-le
    by false rest = omega arith

-- how far behind the scale a form has the number of a term's bytes
pub whole-behind : (f : Form) (n : ℕ) (s : List ℕ) (terms : ℕ) → n ≡ behind f → Whole (behind f) s 0 terms → Whole n s 0 terms
whole-behind f n s terms is w = rw is w

pub ends-behind : (f : Form) (n : ℕ) (a s : List ℕ) (most terms r : ℕ) → n ≡ behind f → most ≡ shared a s → r ≡ ends_within n s most 0 terms → r ≡ ends_within (behind f) s (shared a s) 0 terms
ends-behind f n a s most terms r is same told = told ∙ ap₂ (λ (m p : ℕ). ends_within m s p 0 terms) is same

pub kept-few : (n : ℕ) (s : List ℕ) (most terms r : ℕ) → r ≡ ends_within n s most 0 terms → r ≤ terms
kept-few n s most terms r is = omega (arith, is, ends-few n s most 0 terms)
