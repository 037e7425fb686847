-- A line of the shape is the export's line of its numbers, and that line is one of the shape. So numbers that stand at a place are read there, one after the other.
use Prim.Native.Nat.{ℕ, ◌+◌, ◌^◌, ◌≤◌, ◌<◌}
use mathlib.Core.Path.{◌≡◌, refl, sym, ap, ◌∙◌}
use mathlib.Core.Bool.{false}
use mathlib.Core.List.{List, [], ◌∷◌, ◌++◌, append_assoc}
use native.Mathlib.Omega.{arith}
use borrow.Author.Tests.{lt-ltb, le-ltb, ltb-true, ltb-false, eq-eqb, eqb-true}
use lib.Dec.{ltb, eqb}
use lib.ListN.{length, drop, length-append, length-drop}
use lib.Seq.{append_snoc, drop-append_seam}
use Rattle.laws.proofs.Cases.{clash, tested}
use Rattle.laws.proofs.Lists.{drop-after}
use Rattle.text.specs.Digits.{worth, decimal_of, value_from}
use Rattle.text.specs.Reading.{run_of, value_at, decimal_at}
use Rattle.text.specs.Parsed as parsed
use Rattle.text.proofs.Digits.{decimal-value}
use Rattle.listing.specs.Text.{feed}
use Rattle.exporting.specs.Text.{after_commas, line_of}
use Rattle.importing.specs.inner.Numeral as numeral
use Rattle.importing.specs.Lines.{is_number, Line, line, broken, before, after, line_from, line_on}
use Rattle.importing.specs.inner.Places.{limited, within_at}
use Rattle.importing.proofs.Shaping.{line-run, line-byte}
use Rattle.importing.proofs.Decimals.{AllDigits, decimal-some, digits_last, decimal-is, decimal-number-is, run-number}
use Rattle.importing.proofs.Within.{limited-low, limited-high, limited-is}

-- ---- the export's line, number by number

pub line-last : (v : ℕ) (rest : List ℕ) → line_of (v ∷ []) ++ rest ≡ decimal_of v ++ (10 ∷ rest)
unfolding line_of after_commas
line-last v rest = append_assoc (decimal_of v) (10 ∷ []) rest

pub line-comma : (v m : ℕ) (ms rest : List ℕ) → line_of (v ∷ m ∷ ms) ++ rest ≡ decimal_of v ++ (44 ∷ (line_of (m ∷ ms) ++ rest))
unfolding line_of after_commas
line-comma v m ms rest =
    append_assoc (decimal_of v) (((44 ∷ decimal_of m) ++ after_commas ms) ++ feed) rest
    ∙ ap (λ (l : List ℕ). decimal_of v ++ (44 ∷ (l ++ rest))) (append_assoc (decimal_of m) (after_commas ms) feed)

-- numbers that stand at a place: a line, or nothing
abbrev pub standing : List ℕ → List ℕ
standing [] = []
standing (n ∷ ns) = line_of (n ∷ ns)

pub record First (n : ℕ) (ns rest : List ℕ) : Type 0 where
  pub byte : ℕ
  pub none : ltb (worth byte) 10 ≡ false
  pub is : standing (n ∷ ns) ++ rest ≡ decimal_of n ++ (byte ∷ (standing ns ++ rest))

pub standing-first : (n : ℕ) (ns rest : List ℕ) → First n ns rest
unfolding worth
standing-first n [] rest = record { byte = 10; none = refl; is = line-last n rest }
standing-first n (m ∷ ms) rest = record { byte = 44; none = refl; is = line-comma n m ms rest }

-- ---- a line of the shape is the export's

before-is : (v : ℕ) (l : Line) (ns rest : List ℕ) → before v l ≡ line ns rest → (ms : List ℕ) × (l ≡ line ms rest) × (ns ≡ v ∷ ms)
before-is v (line ms r) ns rest e = let same : r ≡ rest = cc in let front : v ∷ ms ≡ ns = cc in (ms, ap (line ms) same, sym front)
before-is v broken ns rest e = absurd (clash (cc))

pub record Exported (s ns rest : List ℕ) : Type 0 where
  pub some : 1 ≤ length ns
  pub text : s ≡ line_of ns ++ rest

exported-more : (run t ms ns rest : List ℕ) (v : ℕ) → run ≡ decimal_of v → ns ≡ v ∷ ms → Exported t ms rest → Exported (run ++ (44 ∷ t)) ns rest
exported-more run t [] ns rest v is made e = absurd (omega (arith, e.some))
exported-more run t (m ∷ ms) ns rest v is made e =
    rw made (record { some = omega arith; text = rw is (ap (λ (l : List ℕ). decimal_of v ++ (44 ∷ l)) e.text ∙ sym (line-comma v m ms rest)) })

exported-last : (run t ns rest : List ℕ) (v : ℕ) → run ≡ decimal_of v → line (v ∷ []) t ≡ line ns rest → Exported (run ++ (10 ∷ t)) ns rest
exported-last run t ns rest v is e =
    let front : v ∷ [] ≡ ns = cc in
    let same : t ≡ rest = cc in
    rw (← front, ← same) (record { some = omega arith; text = rw is (sym (line-last v t)) })

line-exported : (run t ns rest : List ℕ) → AllDigits run → line_from run t ≡ line ns rest → Exported (run ++ t) ns rest
unfolding line_from
line-exported run [] ns rest all e = absurd (clash (cc))
line-exported run (b ∷ t) ns rest all e =
    tested (ltb (worth b) 10)
    (λ y.
    let more = line-exported (run ++ (b ∷ [])) t ns rest (digits_last run b all (ltb-true (worth b) 10 y)) (rw (y, line_from) at e) in
    rw (append_snoc run b t) at more)
    (λ y.
    let after_is : after run b t (line_on t) ≡ line ns rest = sym (line-byte run b t y) ∙ e in
    tested (is_number run)
    (λ z.
    let is : run ≡ decimal_of (value_from 10 0 run) = sym (decimal-is run all z) in
    tested (eqb b 10)
    (λ f.
    let ten : b ≡ 10 = eqb-true b 10 f in
    rw ten (exported-last run t ns rest (value_from 10 0 run) is (rw (z, f) at after_is)))
    (λ f.
    tested (eqb b 44)
    (λ c.
    let fortyfour : b ≡ 44 = eqb-true b 44 c in
    let m = before-is (value_from 10 0 run) (line_on t) ns rest (rw (z, f, c) at after_is) in
    rw fortyfour (exported-more run t m.0 ns rest (value_from 10 0 run) is m.2 (line-exported [] t m.0 rest tt m.1)))
    (λ c. absurd (clash (let g : broken ≡ line ns rest = rw (z, f, c) at after_is in cc)))))
    (λ z. absurd (clash (let g : broken ≡ line ns rest = rw z at after_is in cc))))

pub line_reads : (s ns rest : List ℕ) → line_on s ≡ line ns rest → Exported s ns rest
line_reads s ns rest e = line-exported [] s ns rest tt e

-- ---- the export's line is one of the shape

line-number : (v b : ℕ) (rest : List ℕ) → ltb (worth b) 10 ≡ false → line_on (decimal_of v ++ (b ∷ rest)) ≡ after (decimal_of v) b rest (line_on rest)
line-number v b rest h =
    let run = run-number v b rest h in
    line-run [] (decimal_of v ++ (b ∷ rest))
    ∙ rw run (ap (line_from (decimal_of v)) (drop-append_seam (decimal_of v) (b ∷ rest)))
    ∙ line-byte (decimal_of v) b rest h

pub line-back : (n : ℕ) (ns rest : List ℕ) → line_on (line_of (n ∷ ns) ++ rest) ≡ line (n ∷ ns) rest
unfolding worth
line-back n [] rest =
    ap line_on (line-last n rest) ∙ line-number n 10 rest refl ∙ rw (decimal-number-is n, decimal-value n)
line-back n (m ∷ ms) rest =
    ap line_on (line-comma n m ms rest) ∙ line-number n 44 (line_of (m ∷ ms) ++ rest) refl
    ∙ rw (decimal-number-is n, decimal-value n, line-back m ms rest)

pub line-inside : (s : List ℕ) (at n : ℕ) (ns rest : List ℕ) → drop at s ≡ line_of (n ∷ ns) ++ rest → at < length s
unfolding line_of
line-inside s at n ns rest e = omega (arith, length-drop at s, ap length e, length-append (line_of (n ∷ ns)) rest, length-append (decimal_of n) (after_commas ns ++ feed), decimal-some n)

-- ---- a number that stands at a place

-- the place after a number and the byte that ends it
abbrev pub next_place : ℕ → ℕ → ℕ
next_place at n = at + length (decimal_of n) + 1

module _ (s : List ℕ) (at n : ℕ) (ns rest : List ℕ) (stands : drop at s ≡ standing (n ∷ ns) ++ rest) where
  run-stands : run_of (drop at s) 10 ≡ decimal_of n
  run-stands = let f = standing-first n ns rest in rw (stands ∙ f.is) (run-number n f.byte (standing ns ++ rest) f.none)

  inside-stands : at + length (decimal_of n) < length s
  inside-stands =
      let f = standing-first n ns rest in
      omega (arith, length-drop at s, ap length (stands ∙ f.is), length-append (decimal_of n) (f.byte ∷ (standing ns ++ rest)))

  decimal-small : n < 2 ^ 64 → decimal_at s at ≡ parsed.Is n (at + length (decimal_of n))
  unfolding decimal_at value_at
  decimal-small small = rw (run-stands, decimal-value n, eq-eqb (length (decimal_of n)) (length (decimal_of n)) refl, lt-ltb n (2 ^ 64) small)

  decimal-large : 2 ^ 64 ≤ n → decimal_at s at ≡ parsed.Not
  unfolding decimal_at value_at
  decimal-large large = rw (run-stands, decimal-value n, eq-eqb (length (decimal_of n)) (length (decimal_of n)) refl, le-ltb n (2 ^ 64) large)

  pub stands-next : drop (next_place at n) s ≡ standing ns ++ rest
  stands-next =
      let f = standing-first n ns rest in
      drop-after s (decimal_of n ++ (f.byte ∷ [])) (standing ns ++ rest) at (next_place at n)
      (stands ∙ f.is ∙ sym (append_snoc (decimal_of n) f.byte (standing ns ++ rest)))
      (omega (arith, length-append (decimal_of n) (f.byte ∷ [])))

  pub stands-in : (low high : ℕ) → high < 2 ^ 64 → low ≤ n → n ≤ high → within_at s at low high ≡ numeral.Is n (next_place at n)
  unfolding within_at
  stands-in low high word above below =
      ap (limited (length s) low high) (decimal-small (omega arith)) ∙ sym (limited-is n (at + length (decimal_of n)) low high (length s) above below inside-stands)

  pub stands-under : (low high : ℕ) → low < 2 ^ 64 → n < low → within_at s at low high ≡ numeral.Wrong
  unfolding within_at
  stands-under low high word under =
      ap (limited (length s) low high) (decimal-small (omega arith)) ∙ sym (limited-low n (at + length (decimal_of n)) low high (length s) under)

  pub stands-over : (low high : ℕ) → low ≤ high → high < n → within_at s at low high ≡ numeral.Wrong
  unfolding within_at
  stands-over low high order over =
      tested (ltb n (2 ^ 64))
      (λ y. ap (limited (length s) low high) (decimal-small (ltb-true n (2 ^ 64) y)) ∙ sym (limited-high n (at + length (decimal_of n)) low high (length s) (omega arith) over))
      (λ y. ap (limited (length s) low high) (decimal-large (ltb-false n (2 ^ 64) y)))
