-- Pieces said one after the other are one text: the places add up, and the stores join.
-- A loop says what is still to be said; each turn takes its piece off the front.
use Prim.Native.Nat.{ℕ, ◌+◌, ◌≤◌, ◌<◌}
use native.Mathlib.Nat.{add-zero}
use native.Mathlib.Omega.{arith}
use mathlib.Core.Path.{◌≡◌, refl, ap, sym, ◌∙◌}
use mathlib.Core.List.{List, [], ◌++◌}
use borrow.Author.Tests.{le-leb, lt-leb, leb-true, leb-false}
use lib.Dec.{leb}
use lib.ListN.{length, length-append}
use lib.Seq.{sets, length-sets}
use Rattle.laws.proofs.Lists.{sets-append}
use Rattle.laws.proofs.Cases.{tested}
use Rattle.laws.proofs.Parts.{sets-placed}
use Rattle.std.specs.Prelude.{Option, Some, None}
use Rattle.laws.specs.Placed.{room_for}
use Rattle.text.specs.Writing.{WrittenTold}
use Rattle.saying.specs.Said.{advanced, Said, Kept}

-- ---- places

-- two stretches are one
advanced-both : (room m n : ℕ) (w : Option ℕ) → advanced room (advanced room w m) n ≡ advanced room w (m + n)
advanced-both room m n None = refl
advanced-both room m n (Some at) =
    tested (leb (at + m) room)
    (λ t. let same : at + m + n ≡ at + (m + n) = omega arith in rw (t, same))
    (λ f. let past : room < at + m = leb-false (at + m) room f in rw (f, lt-leb (at + (m + n)) room (omega arith)))

-- what was said is within the room
pub advanced-kept : (room n : ℕ) (w : Option ℕ) → Kept room (advanced room w n)
advanced-kept room n w = advanced-both room n 0 w ∙ ap (advanced room w) (add-zero n)

pub advanced-is : (room n : ℕ) (w : Option ℕ) (end : ℕ) → advanced room w n ≡ Some end → (at : ℕ) × (w ≡ Some at) × (end ≡ at + n) × (at + n ≤ room)
advanced-is room n None end e = absurd (cc)
advanced-is room n (Some at) end e =
    tested (leb (at + n) room)
    (λ t. let is : Some (at + n) ≡ Some end = rw t at e in (at, refl, cc, leb-true (at + n) room t))
    (λ f. let is : None ≡ Some end = rw f at e in absurd (cc))

pub advanced-not : (room n at : ℕ) → advanced room (Some at) n ≡ None → room < at + n
advanced-not room n at e =
    tested (leb (at + n) room)
    (λ t. let is : Some (at + n) ≡ None = rw t at e in absurd (cc))
    (λ f. leb-false (at + n) room f)

-- ---- one piece

wrote-sets : (before after text : List ℕ) (at : ℕ) (q : Option ℕ) → WrittenTold before at text q after → at + length text ≤ length before → after ≡ sets before at text
wrote-sets before after text at q w room = w.out ∙ rw (le-leb (at + length text) (length before) room) (sym (sets-placed text before at room))

wrote-long : (before after text : List ℕ) (at : ℕ) (q : Option ℕ) → WrittenTold before at text q after → length after ≡ length before
wrote-long before after text at q w =
    tested (room_for before at (length text))
    (λ t. let is : after ≡ sets before at text = wrote-sets before after text at q w (leb-true _ _ t) in ap length is ∙ length-sets before at text)
    (λ f. let is : after ≡ before = w.out ∙ rw f in ap length is)

pub said-piece : (room : ℕ) (before after text : List ℕ) (w : Option ℕ) (at n : ℕ) (q r : Option ℕ) → w ≡ Some at → WrittenTold before at text q after → n ≡ length text → r ≡ advanced room (Some at) n → Said room before w text r after
said-piece room before after text w at n q r is wrote size answer =
    let told : r ≡ advanced room w (length text) = answer ∙ ap (advanced room (Some at)) size ∙ ap (λ (w : Option ℕ). advanced room w (length text)) (sym is) in
    record {
      answer = told;
      holds = λ enough at' end from to.
          let f = advanced-is room (length text) w end (sym told ∙ to) in
          let same : at' ≡ at = cc in
          let place : f.0 ≡ at = cc f.1 in
          rw same (wrote-sets before after text at q wrote (omega (arith, f.3)));
      long = wrote-long before after text at q wrote;
    }

pub said-nothing : (room : ℕ) (before text : List ℕ) (w r : Option ℕ) → w ≡ None → r ≡ None → Said room before w text r before
said-nothing room before text w r is answer =
    record {
      answer = answer ∙ rw is;
      holds = λ enough at end from to. absurd (cc);
      long = refl;
    }

-- ---- one piece after another

pub said-both : {room : ℕ} {a b c xs ys : List ℕ} {w q r : Option ℕ} → Said room a w xs q b → Said room b q ys r c → Said room a w (xs ++ ys) r c
said-both {room} {a} {b} {c} {xs} {ys} {w} {q} {r} first second =
    record {
      answer =
          second.answer ∙ ap (λ (w : Option ℕ). advanced room w (length ys)) first.answer
          ∙ advanced-both room (length xs) (length ys) w ∙ ap (advanced room w) (sym (length-append xs ys));
      holds = λ enough at end from to.
          let m = advanced-is room (length ys) q end (sym second.answer ∙ to) in
          let f = advanced-is room (length xs) w m.0 (sym first.answer ∙ m.1) in
          let same : f.0 ≡ at = cc f.1 in
          let mid : m.0 ≡ at + length xs = omega (arith, f.2) in
          let one : b ≡ sets a at xs = first.holds enough at m.0 from m.1 in
          let two : c ≡ sets b m.0 ys = second.holds (omega (arith, first.long)) m.0 end m.1 to in
          two ∙ ap (λ (l : List ℕ). sets l m.0 ys) one ∙ ap (λ (i : ℕ). sets (sets a at xs) i ys) mid ∙ sym (sets-append a at xs ys);
      long = second.long ∙ first.long;
    }

pub said-none : (room : ℕ) (a : List ℕ) (w : Option ℕ) → Kept room w → Said room a w [] w a
said-none room a w kept = record { answer = sym kept; holds = λ enough at end from to. refl; long = refl }

pub said-kept : (room : ℕ) (a b xs : List ℕ) (w r : Option ℕ) → Said room a w xs r b → Kept room r
said-kept room a b xs w r s = rw s.answer (advanced-kept room (length xs) w)

-- ---- what a loop has still to say

pub record Saying (room : ℕ) (before : List ℕ) (w : Option ℕ) (whole out : List ℕ) (said : Option ℕ) (rest : List ℕ) : Type 0 where
  pub kept : Kept room said
  pub long : length out ≡ length before
  pub onward : (r : Option ℕ) (after : List ℕ) → Said room out said rest r after → Said room before w whole r after

pub saying-all : (room : ℕ) (a : List ℕ) (w : Option ℕ) (whole : List ℕ) → Kept room w → Saying room a w whole a w whole
saying-all room a w whole kept = record { kept = kept; long = refl; onward = λ r after s. s }

pub saying-more : {room : ℕ} {a b c whole piece rest : List ℕ} {w q r : Option ℕ} → Saying room a w whole b q (piece ++ rest) → Said room b q piece r c → Saying room a w whole c r rest
saying-more s one =
    record {
      kept = said-kept _ _ _ _ _ _ one;
      long = one.long ∙ s.long;
      onward = λ r after two. s.onward r after (said-both one two);
    }

pub saying-done : {room : ℕ} {a b whole : List ℕ} {w q : Option ℕ} → Saying room a w whole b q [] → Said room a w whole q b
saying-done {room} {a} {b} {whole} {w} {q} s = s.onward q b (said-none room b q s.kept)
