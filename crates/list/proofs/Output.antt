-- The listing's answer, and the line of its refusal, are the program's output: the buffer has room for every text.
use Prim.Native.Nat.{ℕ, ◌+◌, ◌^◌, ◌≤◌, ◌<◌}
use native.Mathlib.Omega.{arith}
use mathlib.Core.Path.{◌≡◌, refl, sym, ◌∙◌}
use mathlib.Core.Bool.{Bool, true, false}
use mathlib.Core.List.{List}
use borrow.Author.Tests.{le-ltb, le-leb, ltb-false}
use lib.Dec.{ltb}
use lib.ListN.{length, drop, length-append}
use lib.Seq.{take-append_seam}
use Rattle.kind.specs.Limits.{most_listed}
use Rattle.laws.proofs.Cases.{clash}
use Rattle.laws.specs.Placed.{placed_where_fits}
use Rattle.number.specs.Numbers.{Bytes}
use Rattle.roll.specs.Reading.{Reading, got, refused, Roll, roll_at}
use Rattle.std.specs.Prelude.{Err}
use Rattle.kind.specs.Refusals.{refusal_number}
use Rattle.kind.specs.declared.refusals.Refusal.TheVariants.{NoRoom}
use Rattle.kind.specs.declared.refusals.Fault.{Fault}
use Rattle.kind.proofs.Faults.{err-is}
use Rattle.roll.specs.Field.{fault}
use Rattle.listing.specs.Listed.{Listed, Text, Refused}
use Rattle.listing.specs.Text.{listing_text, refusal_text}
use Rattle.listing.specs.Answers.{text_at, TextTold, read_answer, read_out, listing_at, listing_out, ListingTold}
use Rattle.listing.proofs.Room.{listing-short, refusal-short}
use Rattle.list.specs.Output.{output_of}
use Rattle.list.specs.inner.Room.{text_room, Holds}

-- a text that has room from the front on
at_front : (text out : List ℕ) → length text ≤ length out → (text_at text out 0 ≡ Text (length text)) × Holds (placed_where_fits out 0 text) (length text) text
unfolding text_at
at_front text out room =
    let fits : ltb (length out) (0 + length text) ≡ false = le-ltb (length out) (0 + length text) (omega arith) in (
      rw (le-ltb (length out) 0 (omega arith), fits),
      rw (le-leb (0 + length text) (length out) (omega arith)) (record { inside = omega (arith, length-append text (drop (0 + length text) out)); is = take-append_seam text (drop (0 + length text) out) }),
    )

pub refused-text : (refusal place n : ℕ) (before after : List ℕ) (x : Listed) → text_room ≤ length before → refusal < 256 → place < 2 ^ 64 → TextTold (refusal_text refusal place) before 0 x after → x ≡ Text n → Holds after n (refusal_text refusal place)
refused-text refusal place n before after x room few small told is =
    let f = at_front (refusal_text refusal place) before (omega (arith, refusal-short refusal place few small)) in
    let size : n ≡ length (refusal_text refusal place) = cc (told.answer, f.0) in
    rw (told.out, size) f.1

pub refused-never : (refusal place : ℕ) (why : Fault) (before after : List ℕ) (x : Listed) → text_room ≤ length before → refusal < 256 → place < 2 ^ 64 → TextTold (refusal_text refusal place) before 0 x after → x ≡ Err why → Holds after 0 (refusal_text refusal place)
refused-never refusal place why before after x room few small told is =
    let f = at_front (refusal_text refusal place) before (omega (arith, refusal-short refusal place few small)) in
    let never : Err why ≡ Text (length (refusal_text refusal place)) = cc (told.answer, f.0) in
    absurd (clash (cc))

-- what the listing answers, case by case
record Case (roll out : List ℕ) (answer : Listed) (after : List ℕ) : Type 0 where
  pub text : (n : ℕ) → answer ≡ Text n → Holds after n (output_of roll)
  pub refusal : (why : Fault) → answer ≡ Err why → output_of roll ≡ refusal_text (refusal_number why.refusal) why.place

read-case : (roll out : List ℕ) (x : Reading Roll) → text_room ≤ length out → Bytes roll → length roll ≤ most_listed → roll_at roll ≡ x → Case roll out (read_answer x out 0) (read_out x out 0)
unfolding output_of
read-case roll out (got r end) room bytes small reads =
    let short = listing-short roll r end bytes small reads in
    let f = at_front (listing_text r) out (omega arith) in
    let said : output_of roll ≡ listing_text r = rw (le-ltb most_listed (length roll) small, reads) in
    record {
      text = λ n is.
          let size : n ≡ length (listing_text r) = cc f.0 in
          rw (said, size) f.1;
      refusal = λ why is. let never : Err why ≡ Text (length (listing_text r)) = cc f.0 in absurd (clash (cc));
    }
read-case roll out (refused m wrong) room bytes small reads =
    record {
      text = λ n is. absurd (clash (cc));
      refusal = λ why is.
          let same = err-is (fault m wrong) why is in
          rw (le-ltb most_listed (length roll) small, reads, ← same);
    }

listing-case : (roll out : List ℕ) → text_room ≤ length out → Bytes roll → Case roll out (listing_at roll out 0) (listing_out roll out 0)
unfolding listing_at listing_out output_of
listing-case roll out room bytes = by (ltb most_listed (length roll)) refl
  where
    by : (b : Bool) → ltb most_listed (length roll) ≡ b → Case roll out (listing_at roll out 0) (listing_out roll out 0)
    by true t =
        rw t
        (record {
          text = λ n is. absurd (clash (cc));
          refusal = λ why is.
              let same = err-is (fault NoRoom 0) why is in
              rw (t, ← same);
        })
    by false f = rw f (read-case roll out (roll_at roll) room bytes (ltb-false most_listed (length roll) f) refl)

pub told_text : (roll before after : List ℕ) (n : ℕ) (x : Listed) → Bytes roll → text_room ≤ length before → ListingTold roll before 0 x after → x ≡ Text n → Holds after n (output_of roll)
told_text roll before after n x bytes room told is = rw told.out ((listing-case roll before room bytes).text n (sym told.answer ∙ is))

pub told-refusal : (roll before middle after : List ℕ) (n : ℕ) (why : Fault) (x : Listed) → Bytes roll → text_room ≤ length before → ListingTold roll before 0 x middle → x ≡ Err why → Holds after n (refusal_text (refusal_number why.refusal) why.place) → Holds after n (output_of roll)
told-refusal roll before middle after n why x bytes room told is holds = rw ((listing-case roll before room bytes).refusal why (sym told.answer ∙ is)) holds
