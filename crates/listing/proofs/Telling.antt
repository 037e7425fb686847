-- The answers: a text that was measured to have room stands from the start place on, and no other changes a byte.
use Prim.Native.Nat.{ℕ, ◌+◌, ◌-◌, ◌≤◌, ◌<◌}
use native.Mathlib.Omega.{arith}
use mathlib.Core.Path.{◌≡◌, refl, sym, ◌∙◌}
use mathlib.Core.List.{List, [], ◌++◌}
use borrow.Author.Tests.{lt-ltb, le-ltb, lt-leb, le-leb}
use borrow.Rule.Slice.PartMut.{put_mid}
use lib.ListN.{length, take, drop, length-drop}
use lib.Seq.{sets}
use Rattle.laws.proofs.Lists.{length-zero}
use Rattle.laws.proofs.Parts.{no-room-placed, part-all, part-put}
use Rattle.listing.specs.Listed.{Text, Refused}
use Rattle.saying.specs.Said.{Said}
use Rattle.listing.specs.Answers.{text_at, TextTold}
use Rattle.saying.proofs.SaidLaws.{advanced-is, advanced-not}
use Rattle.std.specs.Prelude.{Option, Some, None}
use Rattle.kind.specs.declared.refusals.Refusal.TheVariants.{StartBeyondEnd, NoRoom}

pub told-beyond : (text out : List ℕ) (start : ℕ) → length out < start → TextTold text out start (Refused StartBeyondEnd 0) out
unfolding text_at
told-beyond text out start past =
    record {
      answer = rw (lt-ltb (length out) start past);
      out = no-room-placed text out start (lt-leb (start + length text) (length out) (omega arith));
    }

-- a text that is measured into no bytes leaves the buffer as it was
pub told-full : (text out part : List ℕ) (start : ℕ) (m : Option ℕ) → start ≤ length out → Said (length out - start) [] (Some 0) text m part → m ≡ None → TextTold text out start (Refused NoRoom 0) (part ++ out)
unfolding text_at
told-full text out part start m inside measured full =
    let none : part ≡ [] = length-zero part measured.long in
    let over : length out - start < 0 + length text = advanced-not (length out - start) (length text) 0 (sym measured.answer ∙ full) in
    record {
      answer = rw (le-ltb (length out) start inside, lt-ltb (length out) (start + length text) (omega arith));
      out = rw none (no-room-placed text out start (lt-leb (start + length text) (length out) (omega arith)));
    }

pub told_text : (text out part written : List ℕ) (start n : ℕ) (m r : Option ℕ) → start ≤ length out → Said (length out - start) [] (Some 0) text m part → m ≡ Some n → Said (length out - start) (take (length (part ++ out) - start) (drop start (part ++ out))) (Some 0) text r written → TextTold text out start (Text n) (put_mid start (length (part ++ out) - start) (part ++ out) written)
unfolding text_at
told_text text out part written start n m r inside measured fits said =
    let none : part ≡ [] = length-zero part measured.long in
    let f = advanced-is (length out - start) (length text) (Some 0) n (sym measured.answer ∙ fits) in
    let zero-at : f.0 ≡ 0 = cc f.1 in
    let size : n ≡ length text = omega (arith, f.2) in
    let room : start + length text ≤ length out = omega (arith, f.3) in
    let same : r ≡ Some n = said.answer ∙ sym measured.answer ∙ fits in
    let into : Said (length out - start) (take (length out - start) (drop start out)) (Some 0) text r written = rw none at said in
    let enough : length out - start ≤ length (take (length out - start) (drop start out)) = rw (part-all out start, length-drop start out) (omega arith) in
    let stored : written ≡ sets (take (length out - start) (drop start out)) 0 text = into.holds enough 0 n refl same in
    let put : put_mid start (length out - start) out written ≡ take start out ++ (text ++ drop (start + length text) out) = part-put out written text start room stored in
    record {
      answer = rw (le-ltb (length out) start inside, le-ltb (length out) (start + length text) room, size);
      out = rw (none, le-leb (start + length text) (length out) room) put;
    }
