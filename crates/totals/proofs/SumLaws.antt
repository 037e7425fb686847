-- The sum of a roll's scales: a judged roll's terms read again are its own, and a scale below 2^32 for each of fewer than 2^32 terms fits a word.
use Prim.Native.Nat.{ℕ, suc, zero-le, ◌+◌, ◌*◌, ◌-◌, ◌^◌, ◌≤◌, ◌<◌}
use mathlib.Core.Path.{◌≡◌, refl, ap, ◌∙◌}
use mathlib.Core.List.{List, [], ◌∷◌}
use native.Mathlib.Omega.{arith}
use native.Mathlib.Nat.{mul-le-mul_right}
use mir.Syntax.{w64}
use mir.Val.{Fits}
use Rattle.laws.specs.Total.{total}
use lib.ListN.{length}
use Rattle.kind.specs.declared.Kind.{Kind}
use Rattle.kind.specs.Limits.{most_terms, most_scale}
use Rattle.term.specs.Terms.{Term}
use Rattle.number.specs.Numbers.{Bytes}
use Rattle.roll.specs.declared.again.Head.{Head}
use Rattle.roll.specs.declared.header.Opened.{Opened}
use Rattle.roll.specs.Header.{check_of}
use Rattle.roll.specs.Fits.{TermsFit}
use Rattle.roll.specs.Reading.{Roll, got, roll_at}
use Rattle.roll.specs.inner.Again.{head_at, head_term, terms_again}
use Rattle.roll.proofs.Checked.{checked-judged, checked_refused}
use Rattle.roll.proofs.AgainLaws.{judged-again}
use Rattle.roll.proofs.Written.{roll-read}
use Rattle.totals.specs.Totals.{scale_sum, roll_total_of}
use Rattle.kind.specs.declared.refusals.Fault.{Fault}
use Rattle.std.specs.Prelude.{Result, Ok, Err}

-- ---- the loop

one_more : (s : List ℕ) (at left : ℕ) → 0 < left → scale_sum (terms_again s at left) ≡ (head_at s at).scale + scale_sum (terms_again s (head_at s at).end (left - 1))
unfolding terms_again head_term total
one_more s at Prim.Native.Nat.zero h = elim h [ ]
one_more s at (suc left) h = let e : suc left - 1 ≡ left = omega arith in rw e

none_more : (s : List ℕ) (at left : ℕ) → left ≡ 0 → scale_sum (terms_again s at left) ≡ 0
unfolding terms_again total
none_more s at left e = rw e refl

-- the scales so far and those of the terms left are the whole sum, and a scale below 2^32 for each term fits
pub record Summing (s : List ℕ) (start terms sum at done : ℕ) : Type 0 where
  pub inside : done ≤ terms
  pub small : sum ≤ 2 ^ 32 * done
  pub same : sum + scale_sum (terms_again s at (terms - done)) ≡ scale_sum (terms_again s start terms)

pub sum_first : (s : List ℕ) (start terms : ℕ) → Summing s start terms 0 start 0
sum_first s start terms = let all : terms - 0 ≡ terms = omega arith in record { inside = zero-le; small = zero-le; same = rw all (omega arith) }

module _ (s : List ℕ) (start terms sum at done : ℕ) (g : Summing s start terms sum at done) where
  pub sum_more : (h : Head) → done < terms → h.scale < 2 ^ 32 → h ≡ head_at s at → Summing s start terms (sum + h.scale) h.end (done + 1)
  sum_more h less small is =
      let back : terms - done - 1 ≡ terms - (done + 1) = omega arith in
      let one = rw (back, ← is) at (one_more s at (terms - done) (omega arith)) in
      record { inside = omega arith; small = omega (arith, small, g.small); same = omega (arith, one, g.same) }

  pub sum_fits : (scale : ℕ) → done < terms → scale < 2 ^ 32 → terms < 2 ^ 32 → Fits w64 (sum + scale)
  sum_fits scale less small few = record { fits = omega (arith, g.small) }

  pub sum_done : terms ≤ done → sum ≡ scale_sum (terms_again s start terms)
  sum_done none = let z = none_more s at (terms - done) (omega arith) in omega (arith, z, g.same)

-- ---- the answer

module _ (s : List ℕ) (y : Result Opened Fault) where
  pub sum-reads : (o : Opened) (v : ℕ) → Bytes s → y ≡ check_of s → y ≡ Ok o → v ≡ scale_sum (terms_again s o.cursor.place o.cursor.left) → Ok v ≡ roll_total_of s
  unfolding roll_total_of
  sum-reads o v bytes e f g = let j = checked-judged s y o e f in rw j.reads (ap (λ (n : ℕ). Ok n) (g ∙ ap scale_sum (judged-again s o bytes j)))

  pub sum-refused : (why : Fault) → y ≡ check_of s → y ≡ Err why → Err why ≡ roll_total_of s
  unfolding roll_total_of
  sum-refused why e f = rw (checked_refused s y why e f)

-- ---- how large the sum of a roll can be, by the limits alone

terms-most : (k : Kind) (l : ℕ) (ts : List Term) → TermsFit k l ts → scale_sum ts ≤ length ts * most_scale
unfolding total
terms-most k l [] fit = omega arith
terms-most k l (t ∷ ts) fit = let h = terms-most k l ts fit.1 in let s = fit.0.scale in let e : length (t ∷ ts) * most_scale ≡ most_scale + length ts * most_scale = omega arith in omega arith

pub roll-sum-most : (s : List ℕ) (r : Roll) (end : ℕ) → Bytes s → roll_at s ≡ got r end → scale_sum r.terms ≤ most_terms * most_scale
roll-sum-most s r end bytes reads =
    let fits = (roll-read s r end bytes reads).1 in
    let h = terms-most r.kind (total r.orders) r.terms fits.terms in
    let l : length r.terms * most_scale ≤ most_terms * most_scale = mul-le-mul_right most_scale fits.most in
    omega arith

pub most-fits : most_terms * most_scale < 2 ^ 64
most-fits = omega arith
