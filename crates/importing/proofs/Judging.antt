-- The judge's lines, one after the other: what is left says what the whole says.
use Prim.Native.Nat.{ℕ, ◌+◌, ◌*◌, ◌-◌, ◌^◌, ◌≤◌, ◌<◌}
use mathlib.Core.Path.{◌≡◌, refl, sym, ap, ◌∙◌}
use mathlib.Core.List.{List}
use native.Mathlib.Omega.{arith}
use borrow.Author.Tests.{lt-ltb, le-ltb, le-leb, lt-leb}
use lib.ListN.{length}
use Rattle.std.specs.Prelude.{Some, None, Ok, Err}
use Rattle.std.specs.Option.{ok_or}
use Rattle.laws.proofs.Cases.{clash}
use Rattle.laws.proofs.Counting.{left_one, left-none}
use Rattle.kind.specs.Kinds.{orders_of}
use Rattle.kind.specs.declared.Kind.{Kind}
use Rattle.number.specs.Numbers.{length_of}
use Rattle.number.proofs.Writing.{length-few}
use Rattle.importing.specs.inner.FirstLine.{FirstLine}
use Rattle.importing.specs.inner.FirstLine as head
use Rattle.importing.proofs.Numbers.{orders-room}
use Rattle.importing.specs.Answer.{Answer}
use Rattle.importing.specs.Answer as imported
use Rattle.importing.specs.inner.Shape.{Shape}
use Rattle.importing.specs.inner.Shape as shape
use Rattle.importing.specs.inner.Numeral.{Numeral}
use Rattle.importing.specs.inner.Numeral as numeral
use Rattle.importing.specs.inner.Size.{Size}
use Rattle.importing.specs.inner.Size as size
use Rattle.importing.specs.inner.Places.{shape_at, term_at, sized, line_size, term_line_at, too_many, end_at, on_size, terms_at, head_at, on_head, head_line_at}
use Rattle.kind.specs.declared.refusals.Refusal.{Refusal}
use Rattle.kind.specs.declared.refusals.Refusal.TheVariants.{LineShape, LineNumbers}

-- ---- a term's line

pub line-missing : (s : List ℕ) (at l : ℕ) (k : Kind) → length s ≤ at → size.Refused LineNumbers ≡ term_line_at s at k l
unfolding term_line_at
line-missing s at l k past = rw (le-leb (length s) at past)

line-there : (s : List ℕ) (at l : ℕ) (k : Kind) (r : Shape) → at < length s → r ≡ shape_at s at → line_size s at k l r ≡ term_line_at s at k l
unfolding term_line_at
line-there s at l k r inside is = rw (lt-leb (length s) at inside, is)

pub line-short : (s : List ℕ) (at l n next : ℕ) (k : Kind) (r : Shape) → at < length s → r ≡ shape_at s at → r ≡ shape.Line n next → n < 2 → size.Refused LineShape ≡ term_line_at s at k l
line-short s at l n next k r inside is made few =
    let step : line_size s at k l (shape.Line n next) ≡ size.Refused LineShape = rw (lt-ltb n 2 few) in
    sym step ∙ ap (line_size s at k l) (sym made) ∙ line-there s at l k r inside is

pub line-long : (s : List ℕ) (at l n next : ℕ) (k : Kind) (r : Shape) (q : Numeral) → at < length s → r ≡ shape_at s at → r ≡ shape.Line n next → 2 ≤ n → q ≡ term_at s at n k l → sized next q ≡ term_line_at s at k l
line-long s at l n next k r q inside is made many term =
    let step : line_size s at k l (shape.Line n next) ≡ sized next (term_at s at n k l) = rw (le-ltb n 2 many) in
    ap (sized next) term ∙ sym step ∙ ap (line_size s at k l) (sym made) ∙ line-there s at l k r inside is

pub line_taken : (s : List ℕ) (at l n next z end : ℕ) (k : Kind) (r : Shape) (q : Numeral) → at < length s → r ≡ shape_at s at → r ≡ shape.Line n next → 2 ≤ n → q ≡ term_at s at n k l → q ≡ numeral.Is z end
    → size.Is z next ≡ term_line_at s at k l
line_taken s at l n next z end k r q inside is made many term e = ap (sized next) (sym e) ∙ line-long s at l n next k r q inside is made many term

pub line-wrong : (s : List ℕ) (at l n next : ℕ) (k : Kind) (r : Shape) (q : Numeral) → at < length s → r ≡ shape_at s at → r ≡ shape.Line n next → 2 ≤ n → q ≡ term_at s at n k l → q ≡ numeral.Wrong
    → size.Refused LineNumbers ≡ term_line_at s at k l
line-wrong s at l n next k r q inside is made many term e = ap (sized next) (sym e) ∙ line-long s at l n next k r q inside is made many term

pub line-broken : (s : List ℕ) (at l : ℕ) (k : Kind) (r : Shape) → at < length s → r ≡ shape_at s at → r ≡ shape.Broken → size.Refused LineShape ≡ term_line_at s at k l
line-broken s at l k r inside is made = ap (line_size s at k l) (sym made) ∙ line-there s at l k r inside is

-- the same, as a place or 21
pub shaped-is : (n next : ℕ) (r : Shape) (q : Size) → q ≡ ok_or r LineShape → q ≡ size.Is n next → r ≡ shape.Line n next
shaped-is n next (Some x) q is made = let both : ◌≡◌ {A = Size} (Ok x) (Ok (n, next)) = sym is ∙ made in cc
shaped-is n next None q is made = absurd (clash (cc))

pub line-unshaped : (s : List ℕ) (at l : ℕ) (k : Kind) (r : Shape) (q : Size) (why : Refusal) → at < length s → r ≡ shape_at s at → q ≡ ok_or r LineShape → q ≡ Err why → size.Refused why ≡ term_line_at s at k l
line-unshaped s at l k (Some x) q why inside is judged made = absurd (clash (cc))
line-unshaped s at l k None q why inside is judged made = sym made ∙ judged ∙ line-broken s at l k None inside is refl

-- ---- the end

pub end-right : (s : List ℕ) (at number z count : ℕ) → length s ≤ at → imported.Roll z count ≡ end_at s at number z count
unfolding end_at
end-right s at number z count past = rw (le-leb (length s) at past)

end-there : (s : List ℕ) (at number z count : ℕ) (r : Shape) → at < length s → r ≡ shape_at s at → too_many number r ≡ end_at s at number z count
unfolding end_at
end-there s at number z count r inside is = rw (lt-leb (length s) at inside, is)

pub end_short : (s : List ℕ) (at number z count n next : ℕ) (r : Shape) → at < length s → r ≡ shape_at s at → r ≡ shape.Line n next → n < 2 → imported.Refused LineShape number ≡ end_at s at number z count
end_short s at number z count n next r inside is made few =
    let step : too_many number (shape.Line n next) ≡ imported.Refused LineShape number = rw (lt-ltb n 2 few) in
    sym step ∙ ap (too_many number) (sym made) ∙ end-there s at number z count r inside is

pub end-many : (s : List ℕ) (at number z count n next : ℕ) (r : Shape) → at < length s → r ≡ shape_at s at → r ≡ shape.Line n next → 2 ≤ n → imported.Refused LineNumbers number ≡ end_at s at number z count
end-many s at number z count n next r inside is made few =
    let step : too_many number (shape.Line n next) ≡ imported.Refused LineNumbers number = rw (le-ltb n 2 few) in
    sym step ∙ ap (too_many number) (sym made) ∙ end-there s at number z count r inside is

pub end-broken : (s : List ℕ) (at number z count : ℕ) (r : Shape) → at < length s → r ≡ shape_at s at → r ≡ shape.Broken → imported.Refused LineShape number ≡ end_at s at number z count
end-broken s at number z count r inside is made = ap (too_many number) (sym made) ∙ end-there s at number z count r inside is

-- ---- the lines

-- a size of 32 bits is added for each term, of which there are below 2^32, so the sum stays below 2^64
pub record Lines (s : List ℕ) (at count : ℕ) (k : Kind) (l first place z number after : ℕ) : Type 0 where
  pub upto : number ≤ after
  pub small : z + 4294967296 * (after - number) ≤ 18446744069414584420
  pub whole : terms_at s place number (after - number) k l z count ≡ terms_at s at 2 count k l first count

pub lines-first : (s : List ℕ) (at count l first after : ℕ) (k : Kind) → first ≤ 100 → count < 2 ^ 32 → after ≡ count + 2 → Lines s at count k l first at first 2 after
lines-first s at count l first after k may word is =
    let left : after - 2 ≡ count = omega arith in
    record { upto = omega arith; small = omega arith; whole = ap (λ (n : ℕ). terms_at s at 2 n k l first count) left }

pub lines-size : (s : List ℕ) (at count l first place z number after more : ℕ) (k : Kind) → Lines s at count k l first place z number after → number < after → more < 2 ^ 32 → z + more < 2 ^ 64
lines-size s at count l first place z number after more k i some small = omega (arith, i.small)

lines_at : (s : List ℕ) (at count l first place z number after : ℕ) (k : Kind) → Lines s at count k l first place z number after → number < after
    → on_size (term_line_at s place k l) number (λ more next. terms_at s next (number + 1) (after - (number + 1)) k l (z + more) count) ≡ terms_at s at 2 count k l first count
unfolding terms_at
lines_at s at count l first place z number after k i some = sym (ap (λ (n : ℕ). terms_at s place number n k l z count) (left_one after number some)) ∙ i.whole

pub lines_more : (s : List ℕ) (at count l first place z number after more next : ℕ) (k : Kind) (r : Size) → Lines s at count k l first place z number after → number < after
    → r ≡ term_line_at s place k l → r ≡ size.Is more next → more < 2 ^ 32 → Lines s at count k l first next (z + more) (number + 1) after
lines_more s at count l first place z number after more next k r i some is made small =
    record {
      upto = omega arith;
      small = omega (arith, i.small);
      whole = sym (ap (λ (x : Size). on_size x number (λ more next. terms_at s next (number + 1) (after - (number + 1)) k l (z + more) count)) (sym is ∙ made)) ∙ lines_at s at count l first place z number after k i some;
    }

pub lines-refused : (s : List ℕ) (at count l first place z number after : ℕ) (refusal : Refusal) (k : Kind) (r : Size) → Lines s at count k l first place z number after → number < after
    → r ≡ term_line_at s place k l → r ≡ size.Refused refusal → imported.Refused refusal number ≡ terms_at s at 2 count k l first count
lines-refused s at count l first place z number after refusal k r i some is made =
    sym (ap (λ (x : Size). on_size x number (λ more next. terms_at s next (number + 1) (after - (number + 1)) k l (z + more) count)) (sym is ∙ made)) ∙ lines_at s at count l first place z number after k i some

pub lines-done : (s : List ℕ) (at count l first place z number after : ℕ) (k : Kind) (r : Answer) → Lines s at count k l first place z number after → after ≤ number
    → r ≡ end_at s place after z count → r ≡ terms_at s at 2 count k l first count
unfolding terms_at
lines-done s at count l first place z number after k r i none e =
    let same : after ≡ number = omega (arith, i.upto) in
    e ∙ ap (λ (n : ℕ). end_at s place n z count) same ∙ sym (ap (λ (n : ℕ). terms_at s place number n k l z count) (left-none after number none)) ∙ i.whole

-- ---- the first line

pub first_small : (k : Kind) (places terms bytes : ℕ) → places ≡ orders_of k → bytes ≡ length_of terms → 1 + places + bytes ≤ 100
first_small k places terms bytes e b = omega (arith, orders-room k places e, b, length-few terms)

pub first-adds : (k : Kind) (places terms bytes : ℕ) → places ≡ orders_of k → bytes ≡ length_of terms → 1 + places + bytes < 2 ^ 64
first-adds k places terms bytes e b = omega (arith, first_small k places terms bytes e b)

pub first-adds-one : (k : Kind) (places : ℕ) → places ≡ orders_of k → 1 + places < 2 ^ 64
first-adds-one k places e = omega (arith, orders-room k places e)

pub numbers-judged : (s : List ℕ) (n next l terms places bytes first : ℕ) (k : Kind) (h : FirstLine) (r : Answer) → h ≡ head_at s n → h ≡ head.Is k l terms → places ≡ orders_of k → bytes ≡ length_of terms
    → first ≡ 1 + places + bytes → r ≡ terms_at s next 2 terms k l first terms → r ≡ head_line_at s n next
unfolding head_line_at
numbers-judged s n next l terms places bytes first k h r is made p b f e =
    let size_is : first ≡ 1 + orders_of k + length_of terms = omega arith in
    e ∙ ap (λ (z : ℕ). terms_at s next 2 terms k l z terms) size_is
    ∙ ap (λ (x : FirstLine). on_head x (λ k l terms. terms_at s next 2 terms k l (1 + orders_of k + length_of terms) terms)) (sym made ∙ is)

pub numbers-wrong : (s : List ℕ) (n next : ℕ) (h : FirstLine) → h ≡ head_at s n → h ≡ head.Wrong → imported.Refused LineNumbers 1 ≡ head_line_at s n next
unfolding head_line_at
numbers-wrong s n next h is made = ap (λ (x : FirstLine). on_head x (λ k l terms. terms_at s next 2 terms k l (1 + orders_of k + length_of terms) terms)) (sym made ∙ is)
