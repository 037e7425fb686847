-- A number of a line, within its limits.
use Prim.Native.Nat.{ℕ, ◌+◌, ◌≤◌, ◌<◌}
use mathlib.Core.Path.{◌≡◌, sym, ap, ◌∙◌}
use mathlib.Core.List.{List}
use borrow.Author.Tests.{lt-ltb, le-ltb, le-leb, lt-leb, ltb-false}
use lib.Dec.{ltb, leb}
use lib.ListN.{length}
use Rattle.laws.proofs.Cases.{clash, tested}
use Rattle.laws.proofs.Pairs.{some-both}
use Rattle.text.specs.Parsed.{Parsed}
use Rattle.text.specs.Parsed as parsed
use Rattle.text.specs.Reading.{decimal_at}
use Rattle.importing.specs.inner.Numeral.{Numeral}
use Rattle.importing.specs.inner.Numeral as numeral
use Rattle.importing.specs.inner.Places.{limited, within_at}

pub limited-low : (n next low high size : ℕ) → n < low → numeral.Wrong ≡ limited size low high (parsed.Is n next)
limited-low n next low high size h = rw (lt-ltb n low h)

pub limited-high : (n next low high size : ℕ) → low ≤ n → high < n → numeral.Wrong ≡ limited size low high (parsed.Is n next)
limited-high n next low high size h k = rw (le-ltb n low h, lt-ltb high n k)

pub limited-last : (n next low high size : ℕ) → low ≤ n → n ≤ high → size ≤ next → numeral.Wrong ≡ limited size low high (parsed.Is n next)
limited-last n next low high size h k past = rw (le-ltb n low h, le-ltb high n k, le-leb size next past)

pub limited-is : (n next low high size : ℕ) → low ≤ n → n ≤ high → next < size → numeral.Is n (next + 1) ≡ limited size low high (parsed.Is n next)
limited-is n next low high size h k inside = rw (le-ltb n low h, le-ltb high n k, lt-leb size next inside)

within-read : (s : List ℕ) (at low high n next : ℕ) (q : Parsed) → q ≡ decimal_at s at → q ≡ parsed.Is n next → limited (length s) low high (parsed.Is n next) ≡ within_at s at low high
unfolding within_at
within-read s at low high n next q r e = ap (limited (length s) low high) (sym e ∙ r)

pub within-low : (s : List ℕ) (at low high n next : ℕ) (q : Parsed) → q ≡ decimal_at s at → q ≡ parsed.Is n next → n < low → numeral.Wrong ≡ within_at s at low high
within-low s at low high n next q r e h = limited-low n next low high (length s) h ∙ within-read s at low high n next q r e

pub within-high : (s : List ℕ) (at low high n next : ℕ) (q : Parsed) → q ≡ decimal_at s at → q ≡ parsed.Is n next → low ≤ n → high < n → numeral.Wrong ≡ within_at s at low high
within-high s at low high n next q r e h k = limited-high n next low high (length s) h k ∙ within-read s at low high n next q r e

pub within-last : (s : List ℕ) (at low high n next : ℕ) (q : Parsed) → q ≡ decimal_at s at → q ≡ parsed.Is n next → low ≤ n → n ≤ high → length s ≤ next → numeral.Wrong ≡ within_at s at low high
within-last s at low high n next q r e h k past = limited-last n next low high (length s) h k past ∙ within-read s at low high n next q r e

pub within-is : (s : List ℕ) (at low high n next : ℕ) (q : Parsed) → q ≡ decimal_at s at → q ≡ parsed.Is n next → low ≤ n → n ≤ high → next < length s → numeral.Is n (next + 1) ≡ within_at s at low high
within-is s at low high n next q r e h k inside = limited-is n next low high (length s) h k inside ∙ within-read s at low high n next q r e

pub within-not : (s : List ℕ) (at low high : ℕ) (q : Parsed) → q ≡ decimal_at s at → q ≡ parsed.Not → numeral.Wrong ≡ within_at s at low high
unfolding within_at
within-not s at low high q e is = ap (limited (length s) low high) (sym is ∙ e)

pub record Inside (low high n : ℕ) : Type 0 where
  pub above : low ≤ n
  pub below : n ≤ high

limited-inside : (p : Parsed) (size low high n next : ℕ) → limited size low high p ≡ numeral.Is n next → Inside low high n
limited-inside (parsed.Is m end) size low high n next e =
    tested (ltb m low)
    (λ y. absurd (clash (let g : numeral.Wrong ≡ numeral.Is n next = rw y at e in cc)))
    (λ y.
    tested (ltb high m)
    (λ z. absurd (clash (let g : numeral.Wrong ≡ numeral.Is n next = rw (y, z) at e in cc)))
    (λ z.
    tested (leb size end)
    (λ x. absurd (clash (let g : numeral.Wrong ≡ numeral.Is n next = rw (y, z, x) at e in cc)))
    (λ x.
    let g : numeral.Is m (end + 1) ≡ numeral.Is n next = rw (y, z, x) at e in
    let same : m ≡ n = (some-both g).0 in
    rw (← same) (record { above = ltb-false m low y; below = ltb-false high m z }))))
limited-inside parsed.Not size low high n next e = absurd (clash (cc))

pub within-inside : (s : List ℕ) (at low high n next : ℕ) → within_at s at low high ≡ numeral.Is n next → Inside low high n
unfolding within_at
within-inside s at low high n next e = limited-inside (decimal_at s at) (length s) low high n next e

pub within-below : (s : List ℕ) (at low high n next : ℕ) → within_at s at low high ≡ numeral.Is n next → n ≤ high
within-below s at low high n next e = (within-inside s at low high n next e).below
