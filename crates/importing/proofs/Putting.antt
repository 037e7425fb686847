-- What is written, number after number and line after line: what is still to be written, put down here, is the whole put down at the start.
use Prim.Native.Nat.{ℕ, ◌+◌, ◌-◌, ◌≤◌, ◌<◌}
use mathlib.Core.Path.{◌≡◌, refl, sym, ap, subst, ◌∙◌}
use mathlib.Core.List.{List, [], ◌++◌}
use native.Mathlib.Omega.{arith}
use borrow.Author.Tests.{le-leb}
use lib.ListN.{length, length-append}
use lib.Seq.{sets, length-sets}
use Rattle.std.specs.Option.{unwrap_or}
use Rattle.laws.proofs.Counting.{left_one, left-none}
use Rattle.laws.proofs.Lists.{sets-append}
use Rattle.laws.proofs.Parts.{room-placed}
use Rattle.number.specs.Numbers.{bytes_of, length_of, written_at, WriteTold}
use Rattle.importing.specs.inner.Shape.{Shape}
use Rattle.importing.specs.inner.Shape as shape
use Rattle.importing.specs.inner.Numeral.{Numeral}
use Rattle.importing.specs.inner.Numeral as numeral
use Rattle.importing.specs.declared.writing.Spot.{Spot}
use Rattle.importing.specs.inner.Places.{shape_at, within_at, most_word, copied_at, past_at, Copied, further, term_put, terms_put, roll_put, Wrote}
use Rattle.std.specs.Prelude.{Option, Some}

-- ---- a number

wrote-room : (before after : List ℕ) (at n : ℕ) (w : Option ℕ) → at + length_of n ≤ length before → WriteTold before at (bytes_of n) w after
    → (w ≡ Some (at + length (bytes_of n))) × (after ≡ sets before at (bytes_of n))
unfolding length_of written_at
wrote-room before after at n w room told =
    let fits = le-leb (at + length (bytes_of n)) (length before) room in
    (told.answer ∙ rw fits, told.out ∙ sym (room-placed (bytes_of n) before at fits))

pub put-written : (before after : List ℕ) (at n r : ℕ) (w : Option ℕ) → at + length_of n ≤ length before → WriteTold before at (bytes_of n) w after → r ≡ unwrap_or w at
    → Wrote (bytes_of n) before at r after
put-written before after at n r w room told is =
    let made = wrote-room before after at n w room told in
    record { answer = is ∙ ap (λ (w : Option ℕ). unwrap_or w at) made.0; out = made.1 }

-- ---- one after the other

pub wrote_then : (xs ys before mid after : List ℕ) (p q r : ℕ) → Wrote xs before p q mid → Wrote ys mid q r after → Wrote (xs ++ ys) before p r after
wrote_then xs ys before mid after p q r a b =
    let long = length-append xs ys in
    record {
      answer = omega (arith, a.answer, b.answer, long);
      out = b.out ∙ ap (λ (n : ℕ). sets mid n ys) a.answer ∙ ap (λ (l : List ℕ). sets l (p + length xs) ys) a.out ∙ sym (sets-append before p xs ys);
    }

copied-wrote : (s : List ℕ) (at n : ℕ) (before : List ℕ) (place : ℕ) (r : Spot) (after : List ℕ) → Copied s at n before place r after → Wrote (copied_at s at n) before place r.roll after
copied-wrote s at n before place r after c = record { answer = c.roll; out = c.out }

wrote-long : (xs before after : List ℕ) (p r : ℕ) → Wrote xs before p r after → length after ≡ length before
wrote-long xs before after p r w = ap length w.out ∙ length-sets before p xs

-- ---- the numbers of a line

pub record Copying (s : List ℕ) (at n : ℕ) (out₀ : List ℕ) (place : ℕ) (out : List ℕ) (from to i : ℕ) : Type 0 where
  pub long : length out ≡ length out₀
  pub room : to + length (copied_at s from (n - i)) ≤ length out
  pub end : to + length (copied_at s from (n - i)) ≡ place + length (copied_at s at n)
  pub text : past_at s from (n - i) ≡ past_at s at n
  pub puts : sets out to (copied_at s from (n - i)) ≡ sets out₀ place (copied_at s at n)

pub copying-first : (s : List ℕ) (at n : ℕ) (out : List ℕ) (place : ℕ) → place + length (copied_at s at n) ≤ length out → Copying s at n out place out at place 0
copying-first s at n out place room = let all : n - 0 ≡ n = omega arith in record { long = refl; room = rw all room; end = rw all; text = rw all; puts = rw all }

record Next (s : List ℕ) (from n i v next : ℕ) : Type 0 where
  pub bytes : copied_at s from (n - i) ≡ bytes_of v ++ copied_at s next (n - (i + 1))
  pub text : past_at s from (n - i) ≡ past_at s next (n - (i + 1))

next-is : (s : List ℕ) (from n i v next : ℕ) (r : Numeral) → i < n → r ≡ within_at s from 0 most_word → r ≡ numeral.Is v next → Next s from n i v next
unfolding copied_at past_at
next-is s from n i v next r inside is made =
    let one = left_one n i inside in
    let e : within_at s from 0 most_word ≡ numeral.Is v next = sym is ∙ made in
    record { bytes = rw (one, e); text = rw (one, e) }

pub copying-room : (s : List ℕ) (at n : ℕ) (out₀ : List ℕ) (place : ℕ) (out : List ℕ) (from to i v next : ℕ) (r : Numeral) → Copying s at n out₀ place out from to i → i < n
    → r ≡ within_at s from 0 most_word → r ≡ numeral.Is v next → to + length_of v ≤ length out
unfolding length_of
copying-room s at n out₀ place out from to i v next r c inside is made =
    let x = next-is s from n i v next r inside is made in
    omega (arith, c.room, ap length x.bytes, length-append (bytes_of v) (copied_at s next (n - (i + 1))))

pub copying-more : (s : List ℕ) (at n : ℕ) (out₀ : List ℕ) (place : ℕ) (out after : List ℕ) (from to i v next to' : ℕ) (r : Numeral) → Copying s at n out₀ place out from to i → i < n
    → r ≡ within_at s from 0 most_word → r ≡ numeral.Is v next → Wrote (bytes_of v) out to to' after → Copying s at n out₀ place after next to' (i + 1)
copying-more s at n out₀ place out after from to i v next to' r c inside is made w =
    let x = next-is s from n i v next r inside is made in
    let long = ap length x.bytes ∙ length-append (bytes_of v) (copied_at s next (n - (i + 1))) in
    record {
      long = wrote-long (bytes_of v) out after to to' w ∙ c.long;
      room = omega (arith, c.room, long, w.answer, wrote-long (bytes_of v) out after to to' w);
      end = omega (arith, c.end, long, w.answer);
      text = sym x.text ∙ c.text;
      puts = ap (λ (m : ℕ). sets after m (copied_at s next (n - (i + 1)))) w.answer
          ∙ ap (λ (l : List ℕ). sets l (to + length (bytes_of v)) (copied_at s next (n - (i + 1)))) w.out
          ∙ sym (sets-append out to (bytes_of v) (copied_at s next (n - (i + 1))))
          ∙ ap (sets out to) (sym x.bytes)
          ∙ c.puts;
    }

copying-end : (s : List ℕ) (at n : ℕ) (out₀ : List ℕ) (place : ℕ) (out : List ℕ) (from to i : ℕ) → Copying s at n out₀ place out from to i → copied_at s from (n - i) ≡ [] → past_at s from (n - i) ≡ from
    → Copied s at n out₀ place (record { text = from; roll = to }) out
copying-end s at n out₀ place out from to i c none text =
    record {
      text = sym text ∙ c.text;
      roll = omega (arith, c.end, ap length none);
      out = sym (ap (sets out to) none) ∙ c.puts;
    }

pub copying-wrong : (s : List ℕ) (at n : ℕ) (out₀ : List ℕ) (place : ℕ) (out : List ℕ) (from to i : ℕ) (r : Numeral) → Copying s at n out₀ place out from to i → i < n
    → r ≡ within_at s from 0 most_word → r ≡ numeral.Wrong → Copied s at n out₀ place (record { text = from; roll = to }) out
unfolding copied_at past_at
copying-wrong s at n out₀ place out from to i r c inside is made =
    let one = left_one n i inside in
    let e : within_at s from 0 most_word ≡ numeral.Wrong = sym is ∙ made in
    copying-end s at n out₀ place out from to i c (rw (one, e)) (rw (one, e))

pub copying-done : (s : List ℕ) (at n : ℕ) (out₀ : List ℕ) (place : ℕ) (out : List ℕ) (from to i : ℕ) → Copying s at n out₀ place out from to i → n ≤ i
    → Copied s at n out₀ place (record { text = from; roll = to }) out
unfolding copied_at past_at
copying-done s at n out₀ place out from to i c past = let none = left-none n i past in copying-end s at n out₀ place out from to i c (rw none) (rw none)

-- ---- a term

record TermRoom (s : List ℕ) (at n place size : ℕ) : Type 0 where
  pub head : place + length (copied_at s at 2) ≤ size
  pub count : place + length (copied_at s at 2) + length_of (further n) ≤ size
  pub rest : place + length (copied_at s at 2) + length_of (further n) + length (copied_at s (past_at s at 2) (further n)) ≤ size

term-room : (s : List ℕ) (at n place size : ℕ) → place + length (term_put s at n) ≤ size → TermRoom s at n place size
unfolding term_put length_of
term-room s at n place size room =
    let a = length-append (copied_at s at 2) (bytes_of (further n) ++ copied_at s (past_at s at 2) (further n)) in
    let b = length-append (bytes_of (further n)) (copied_at s (past_at s at 2) (further n)) in
    record { head = omega arith; count = omega arith; rest = omega arith }

pub term-room-head : (s : List ℕ) (at n place : ℕ) (out : List ℕ) → place + length (term_put s at n) ≤ length out → place + length (copied_at s at 2) ≤ length out
term-room-head s at n place out room = (term-room s at n place (length out) room).head

pub term-room-count : (s : List ℕ) (at n place count : ℕ) (out mid : List ℕ) (h : Spot) → place + length (term_put s at n) ≤ length out → count ≡ further n → Copied s at 2 out place h mid
    → h.roll + length_of count ≤ length mid
term-room-count s at n place count out mid h room is c =
    let fits = (term-room s at n place (length out) room).count in
    rw is (omega (arith, c.roll, wrote-long (copied_at s at 2) out mid place h.roll (copied-wrote s at 2 out place h mid c)))

pub term-room-rest : (s : List ℕ) (at n place count to : ℕ) (out mid low : List ℕ) (h : Spot) → place + length (term_put s at n) ≤ length out → count ≡ further n → Copied s at 2 out place h mid
    → Wrote (bytes_of count) mid h.roll to low → to + length (copied_at s h.text count) ≤ length low
unfolding length_of
term-room-rest s at n place count to out mid low h room is c w =
    let fits = (term-room s at n place (length out) room).rest in
    let long = wrote-long (copied_at s at 2) out mid place h.roll (copied-wrote s at 2 out place h mid c) in
    let longer = wrote-long (bytes_of count) mid low h.roll to w in
    let bytes : length (bytes_of count) ≡ length (bytes_of (further n)) = rw is in
    let rest : length (copied_at s h.text count) ≡ length (copied_at s (past_at s at 2) (further n)) = rw (is, c.text) in
    omega (arith, fits, long, longer, w.answer, c.roll, bytes, rest)

pub term-put : (s : List ℕ) (at n place count to : ℕ) (out mid low after : List ℕ) (h e : Spot) → count ≡ further n → Copied s at 2 out place h mid
    → Wrote (bytes_of count) mid h.roll to low → Copied s h.text count low to e after → Wrote (term_put s at n) out place e.roll after
unfolding term_put
term-put s at n place count to out mid low after h e is c w d =
    let a = copied-wrote s at 2 out place h mid c in
    let b = copied-wrote s h.text count low to e after d in
    let both = wrote_then (bytes_of count) (copied_at s h.text count) mid low after h.roll to e.roll w b in
    let all = wrote_then (copied_at s at 2) (bytes_of count ++ copied_at s h.text count) out mid after place h.roll e.roll a both in
    let same : copied_at s at 2 ++ (bytes_of count ++ copied_at s h.text count) ≡ copied_at s at 2 ++ (bytes_of (further n) ++ copied_at s (past_at s at 2) (further n)) = rw (is, c.text) in
    subst (λ (l : List ℕ). Wrote l out place e.roll after) same all

-- ---- the terms

pub record Terms (s : List ℕ) (at terms : ℕ) (out₀ : List ℕ) (place : ℕ) (out : List ℕ) (from to i : ℕ) : Type 0 where
  pub long : length out ≡ length out₀
  pub room : to + length (terms_put s from (terms - i)) ≤ length out
  pub puts : sets out to (terms_put s from (terms - i)) ≡ sets out₀ place (terms_put s at terms)

pub terms-first : (s : List ℕ) (at terms : ℕ) (out : List ℕ) (place : ℕ) → place + length (terms_put s at terms) ≤ length out → Terms s at terms out place out at place 0
terms-first s at terms out place room = let all : terms - 0 ≡ terms = omega arith in record { long = refl; room = rw all room; puts = rw all }

terms-next : (s : List ℕ) (from terms i n next : ℕ) (r : Shape) → i < terms → r ≡ shape_at s from → r ≡ shape.Line n next → terms_put s from (terms - i) ≡ term_put s from n ++ terms_put s next (terms - (i + 1))
unfolding terms_put
terms-next s from terms i n next r inside is made =
    let one = left_one terms i inside in
    let e : shape_at s from ≡ shape.Line n next = sym is ∙ made in
    rw (one, e)

pub terms-room : (s : List ℕ) (at terms : ℕ) (out₀ : List ℕ) (place : ℕ) (out : List ℕ) (from to i n next : ℕ) (r : Shape) → Terms s at terms out₀ place out from to i → i < terms
    → r ≡ shape_at s from → r ≡ shape.Line n next → to + length (term_put s from n) ≤ length out
terms-room s at terms out₀ place out from to i n next r t inside is made =
    omega (arith, t.room, ap length (terms-next s from terms i n next r inside is made), length-append (term_put s from n) (terms_put s next (terms - (i + 1))))

pub terms-more : (s : List ℕ) (at terms : ℕ) (out₀ : List ℕ) (place : ℕ) (out after : List ℕ) (from to i n next to' : ℕ) (r : Shape) → Terms s at terms out₀ place out from to i → i < terms
    → r ≡ shape_at s from → r ≡ shape.Line n next → Wrote (term_put s from n) out to to' after → Terms s at terms out₀ place after next to' (i + 1)
terms-more s at terms out₀ place out after from to i n next to' r t inside is made w =
    let x = terms-next s from terms i n next r inside is made in
    let long = ap length x ∙ length-append (term_put s from n) (terms_put s next (terms - (i + 1))) in
    record {
      long = wrote-long (term_put s from n) out after to to' w ∙ t.long;
      room = omega (arith, t.room, long, w.answer, wrote-long (term_put s from n) out after to to' w);
      puts = ap (λ (m : ℕ). sets after m (terms_put s next (terms - (i + 1)))) w.answer
          ∙ ap (λ (l : List ℕ). sets l (to + length (term_put s from n)) (terms_put s next (terms - (i + 1)))) w.out
          ∙ sym (sets-append out to (term_put s from n) (terms_put s next (terms - (i + 1))))
          ∙ ap (sets out to) (sym x)
          ∙ t.puts;
    }

pub terms-broken : (s : List ℕ) (at terms : ℕ) (out₀ : List ℕ) (place : ℕ) (out : List ℕ) (from to i : ℕ) (r : Shape) → Terms s at terms out₀ place out from to i → i < terms
    → r ≡ shape_at s from → r ≡ shape.Broken → out ≡ sets out₀ place (terms_put s at terms)
unfolding terms_put
terms-broken s at terms out₀ place out from to i r t inside is made =
    let one = left_one terms i inside in
    let e : shape_at s from ≡ shape.Broken = sym is ∙ made in
    let none : terms_put s from (terms - i) ≡ [] = rw (one, e) in
    sym (ap (sets out to) none) ∙ t.puts

pub terms-done : (s : List ℕ) (at terms : ℕ) (out₀ : List ℕ) (place : ℕ) (out : List ℕ) (from to i : ℕ) → Terms s at terms out₀ place out from to i → terms ≤ i → out ≡ sets out₀ place (terms_put s at terms)
unfolding terms_put
terms-done s at terms out₀ place out from to i t past =
    let none : terms_put s from (terms - i) ≡ [] = rw (left-none terms i past) in
    sym (ap (sets out to) none) ∙ t.puts

-- ---- the roll

roll-line : (s : List ℕ) (terms n next : ℕ) (r : Shape) → r ≡ shape_at s 0 → r ≡ shape.Line n next → roll_put s terms ≡ copied_at s 0 n ++ terms_put s next terms
unfolding roll_put
roll-line s terms n next r is made = let e : shape_at s 0 ≡ shape.Line n next = sym is ∙ made in rw e

pub roll-room-head : (s : List ℕ) (terms n next start : ℕ) (out : List ℕ) (r : Shape) → start + length (roll_put s terms) ≤ length out → r ≡ shape_at s 0 → r ≡ shape.Line n next
    → start + length (copied_at s 0 n) ≤ length out
roll-room-head s terms n next start out r room is made =
    omega (arith, room, ap length (roll-line s terms n next r is made), length-append (copied_at s 0 n) (terms_put s next terms))

pub roll-room-terms : (s : List ℕ) (terms n next start : ℕ) (out mid : List ℕ) (r : Shape) (h : Spot) → start + length (roll_put s terms) ≤ length out → r ≡ shape_at s 0 → r ≡ shape.Line n next
    → Copied s 0 n out start h mid → h.roll + length (terms_put s next terms) ≤ length mid
roll-room-terms s terms n next start out mid r h room is made c =
    omega (arith, room, c.roll, ap length (roll-line s terms n next r is made), length-append (copied_at s 0 n) (terms_put s next terms), wrote-long (copied_at s 0 n) out mid start h.roll (copied-wrote s 0 n out start h mid c))

pub roll-put : (s : List ℕ) (terms n next start : ℕ) (out mid after : List ℕ) (r : Shape) (h : Spot) → r ≡ shape_at s 0 → r ≡ shape.Line n next
    → Copied s 0 n out start h mid → after ≡ sets mid h.roll (terms_put s next terms) → after ≡ sets out start (roll_put s terms)
roll-put s terms n next start out mid after r h is made c e =
    e ∙ ap (λ (n : ℕ). sets mid n (terms_put s next terms)) c.roll
    ∙ ap (λ (l : List ℕ). sets l (start + length (copied_at s 0 n)) (terms_put s next terms)) c.out
    ∙ sym (sets-append out start (copied_at s 0 n) (terms_put s next terms))
    ∙ ap (sets out start) (sym (roll-line s terms n next r is made))

pub roll-broken : (s : List ℕ) (terms start : ℕ) (out : List ℕ) (r : Shape) → r ≡ shape_at s 0 → r ≡ shape.Broken → out ≡ sets out start (roll_put s terms)
unfolding roll_put
roll-broken s terms start out r is made = let e : shape_at s 0 ≡ shape.Broken = sym is ∙ made in rw e
