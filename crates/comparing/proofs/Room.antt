-- No head and no line is longer than a small buffer: numbers below 2^32 have ten digits, bytes three, a place twenty.
use Prim.Native.Nat.{ℕ, zero, suc, ◌+◌, ◌*◌, ◌^◌, ◌≤◌, ◌<◌}
use native.Mathlib.Omega.{arith}
use mathlib.Core.Path.{◌≡◌}
use mathlib.Core.Bool.{Bool, true, false}
use mathlib.Core.List.{List, [], ◌∷◌, ◌++◌}
use lib.ListN.{length, take, length-append}
use Rattle.std.specs.Prelude.{Some, None, Result, Ok, Err}
use Rattle.kind.specs.Limits.{most_l·any, request_orders}
use Rattle.number.specs.Numbers.{Bytes}
use Rattle.term.specs.declared.Term.{Term as Held}
use Rattle.text.specs.Digits.{decimal_of}
use Rattle.text.proofs.Digits.{digits-most}
use Rattle.roll.specs.inner.Held.{from_held}
use Rattle.listing.specs.Text.{blank, kind_word, after_blanks}
use Rattle.kind.specs.declared.refusals.Refusal.{Refusal}
use Rattle.kind.specs.declared.refusals.Refusal.TheVariants.{WrongKind, OrderSum, UnusedOrder, TooManyTerms, StartBeyondEnd, NoRoom, BadRoll, InputNotFinite, Exponent, BoysCount, ResultNotFinite, MatrixSize, ComponentNumber, CutRoll, PrimitiveCount, HostCount, Nuclei, BelowZero, OutsideProfile, NotTheExpansion, LineShape, LineNumbers}
use Rattle.kind.specs.Refusals.{refusal_number}
use Rattle.comparing.specs.declared.differ.Compared.{Compared}
use Rattle.comparing.specs.declared.pair.Line.{Line}
use Rattle.comparing.specs.declared.pair.Line.TheVariants as line
use Rattle.comparing.specs.declared.pair.Met.{Met}
use Rattle.comparing.specs.declared.sides.Side.{Side}
use Rattle.comparing.specs.declared.sides.Side.TheVariants as side
use Rattle.comparing.specs.declared.sides.Sided.{Sided}
use Rattle.comparing.specs.Text.{both, terms_word, both_word, left_word, right_word, count_line, pair_line, orders_line, reading_text, numbered_text, one_line, line_text, side_end, refused_text}
use Rattle.comparing.specs.Pairs.{Answered}
use Rattle.comparing.specs.Answers.{used_of, head_of, compared_text, sided_text, position_as, met_text, answered_text, piece_room}

-- ---- a number's decimal

byte-digits : (n : ℕ) → n < 256 → length (decimal_of n) ≤ 3
byte-digits n h = digits-most 2 n (omega arith)

word-digits : (n : ℕ) → n < 2 ^ 32 → length (decimal_of n) ≤ 10
word-digits n h = digits-most 9 n (omega arith)

place-digits : (n : ℕ) → n < 2 ^ 64 → length (decimal_of n) ≤ 20
place-digits n h = digits-most 19 n (omega arith)

-- ---- a row of bytes

next-length : (n : ℕ) (ns : List ℕ) → length (after_blanks (n ∷ ns)) ≡ suc (length (decimal_of n)) + length (after_blanks ns)
unfolding after_blanks
next-length n ns = length-append (blank ++ decimal_of n) (after_blanks ns)

row-most : (n : ℕ) (ps : List ℕ) → Bytes ps → length (after_blanks (take n ps)) ≤ 4 * length ps
unfolding after_blanks
row-most zero ps bytes = omega arith
row-most (suc n) [] bytes = omega arith
row-most (suc n) (p ∷ ps) bytes =
    omega (arith, next-length p (take n ps), byte-digits p (bytes 0), row-most n ps (λ i. bytes (suc i)))

-- ---- a term

-- what a held term's numbers are within
pub record Small (t : Held) : Type 0 where
  pub scale : t.scale < 2 ^ 32
  pub boys : t.boys < 256
  pub long : length t.prefactors ≡ most_l·any
  pub bytes : Bytes t.prefactors

reading-most : (t : Held) → Small t → length (reading_text (from_held t)) ≤ 111
unfolding reading_text
reading-most t small =
    simp length-append
    (omega (arith, word-digits t.scale small.scale, byte-digits t.boys small.boys, row-most t.count t.prefactors small.bytes, small.long))

-- ---- a line

numbered-most : (n : ℕ) (word : List ℕ) (t : Held) → n < 2 ^ 32 → Small t → length (numbered_text n word (from_held t)) ≤ 121 + length word
unfolding numbered_text
numbered-most n word t few small = simp length-append (omega (arith, word-digits n few, reading-most t small))

one-most : (n : ℕ) (side : List ℕ) (t : Held) → n < 2 ^ 32 → Small t → length (one_line n side (from_held t)) ≤ 122 + length side
unfolding one_line
one-most n side t few small = simp length-append (omega (arith, numbered-most n side t few small))

both_most : (n : ℕ) (l r : Held) → n < 2 ^ 32 → Small l → Small r → length (line_text (both n (from_held l) (from_held r))) ≤ 256
unfolding line_text
both_most n l r few one two = simp length-append (omega (arith, numbered-most n both_word l few one, reading-most r two))

-- what the terms of a line are within
abbrev pub SmallLine : Line → Type 0
SmallLine (line.Both l r) = Small l × Small r
SmallLine (line.Left l) = Small l
SmallLine (line.Right r) = Small r

line-most : (f : Line) (n : ℕ) → n < 2 ^ 32 → SmallLine f → length (line_text (position_as f n)) ≤ piece_room
unfolding line_text
line-most (line.Both l r) n few small = both_most n l r few small.0 small.1
line-most (line.Left l) n few small = omega (arith, one-most n left_word l few small)
line-most (line.Right r) n few small = omega (arith, one-most n right_word r few small)

pub met-short : (m : Met) → m.number < 2 ^ 32 → SmallLine m.line → length (met_text m) ≤ piece_room
unfolding met_text
met-short m few small = line-most m.line m.number few small

-- ---- a refusal

number-most : (r : Refusal) → refusal_number r < 256
number-most WrongKind = omega arith
number-most OrderSum = omega arith
number-most UnusedOrder = omega arith
number-most TooManyTerms = omega arith
number-most StartBeyondEnd = omega arith
number-most NoRoom = omega arith
number-most BadRoll = omega arith
number-most InputNotFinite = omega arith
number-most Exponent = omega arith
number-most BoysCount = omega arith
number-most ResultNotFinite = omega arith
number-most MatrixSize = omega arith
number-most ComponentNumber = omega arith
number-most CutRoll = omega arith
number-most PrimitiveCount = omega arith
number-most HostCount = omega arith
number-most Nuclei = omega arith
number-most BelowZero = omega arith
number-most OutsideProfile = omega arith
number-most NotTheExpansion = omega arith
number-most LineShape = omega arith
number-most LineNumbers = omega arith

end-most : (at : Side) → length (side_end at) ≤ 7
end-most side.Left = omega arith
end-most side.Right = omega arith

refused-most : (r : Refusal) (place : ℕ) (at : Side) → place < 2 ^ 64 → length (refused_text r place at) ≤ 42
unfolding refused_text
refused-most r place at small =
    simp length-append
    (omega (arith, byte-digits (refusal_number r) (number-most r), place-digits place small, end-most at))

pub refusal-short : (e : Sided) → e.fault.place < 2 ^ 64 → length (sided_text e) ≤ piece_room
unfolding sided_text
refusal-short e small = omega (arith, refused-most e.fault.refusal e.fault.place e.side small)

-- ---- the head

count_most : (n : ℕ) → n < 2 ^ 32 → length (count_line n) ≤ 18
unfolding count_line
count_most n few = simp length-append (omega (arith, word-digits n few))

kinds-most : (on : Bool) (l r : ℕ) → l < 256 → r < 256 → length (pair_line on kind_word l r) ≤ 15
unfolding pair_line
kinds-most true l r one two = simp length-append (omega (arith, byte-digits l one, byte-digits r two))
kinds-most false l r one two = omega arith

terms-most : (on : Bool) (l r : ℕ) → l < 2 ^ 32 → r < 2 ^ 32 → length (pair_line on terms_word l r) ≤ 30
unfolding pair_line
terms-most true l r one two = simp length-append (omega (arith, word-digits l one, word-digits r two))
terms-most false l r one two = omega arith

orders-most : (on : Bool) (n m : ℕ) (l r : List ℕ) → Bytes l → Bytes r → length l ≡ request_orders → length r ≡ request_orders → length (orders_line on (take n l) (take m r)) ≤ 105
unfolding orders_line
orders-most true n m l r one two long wide = simp length-append (omega (arith, row-most n l one, row-most m r two))
orders-most false n m l r one two long wide = omega arith

-- what the numbers of a comparison are within
pub record SmallHead (c : Compared) : Type 0 where
  pub differ : c.differ < 2 ^ 32
  pub left-kind : c.cursor.left.cursor.kind < 256
  pub right-kind : c.cursor.right.cursor.kind < 256
  pub left-terms : c.cursor.left.cursor.left < 2 ^ 32
  pub right-terms : c.cursor.right.cursor.left < 2 ^ 32
  pub left-bytes : Bytes c.left
  pub right-bytes : Bytes c.right
  pub left-long : length c.left ≡ request_orders
  pub right-long : length c.right ≡ request_orders

pub rolls-short : (c : Compared) → SmallHead c → length (head_of c) ≤ piece_room
unfolding head_of
rolls-short c small =
    let l = c.cursor.left.cursor in
    let r = c.cursor.right.cursor in
    simp length-append
    (omega (
      arith,
      count_most c.differ small.differ,
      kinds-most c.kinds l.kind r.kind small.left-kind small.right-kind,
      orders-most c.orders (used_of l.kind) (used_of r.kind) c.left c.right small.left-bytes small.right-bytes small.left-long small.right-long,
      terms-most c.terms l.left r.left small.left-terms small.right-terms,
    ))

-- ---- what a comparison and a step answer

-- what the numbers of a comparison's answer are within
abbrev pub SmallCompared : Result Compared Sided → Type 0
SmallCompared (Ok c) = SmallHead c
SmallCompared (Err e) = e.fault.place < 2 ^ 64

pub head-short : (a : Result Compared Sided) → SmallCompared a → length (compared_text a) ≤ piece_room
head-short (Ok c) small = rolls-short c small
head-short (Err e) small = refusal-short e small

-- what the numbers of a step's answer are within
abbrev pub SmallAnswered : Answered → Type 0
SmallAnswered (Ok (Some m)) = (m.number < 2 ^ 32) × SmallLine m.line
SmallAnswered (Ok None) = 0 ≤ piece_room
SmallAnswered (Err e) = e.fault.place < 2 ^ 64

pub line-short : (a : Answered) → SmallAnswered a → length (answered_text a) ≤ piece_room
line-short (Ok (Some m)) small = met-short m small.0 small.1
line-short (Ok None) small = small
line-short (Err e) small = refusal-short e small
