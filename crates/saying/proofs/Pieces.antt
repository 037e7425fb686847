-- What each function says of its pieces: two pieces are a name with its number, and a row goes on from one number to the next.
use Prim.Native.Nat.{ℕ, ◌+◌, ◌≤◌, ◌<◌}
use native.Mathlib.Numerals.{add-one}
use mathlib.Core.Path.{◌≡◌, refl, ap, sym, ◌∙◌}
use mathlib.Core.List.{List, [], ◌++◌}
use lib.ListN.{length, get_or, drop, drop_of_length-le}
use lib.Seq.{drop-cons}
use Rattle.std.specs.Prelude.{Option, Some, None}
use Rattle.text.specs.Digits.{decimal_of}
use Rattle.text.specs.Writing.{WrittenTold}
use Rattle.saying.specs.Said.{advanced, Said, piece_out, PieceTold, named_out, NamedTold, each_after, each_from, EachTold}
use Rattle.saying.proofs.SaidLaws.{said-piece, said-nothing, said-both, Saying, saying-more, saying-done}

-- ---- one piece

pub piece-put : (room : ℕ) (before after text : List ℕ) (w : Option ℕ) (at n : ℕ) (q r : Option ℕ) → w ≡ Some at → WrittenTold before at text q after → n ≡ length text → r ≡ advanced room (Some at) n → PieceTold room before w text r after
unfolding piece_out
piece-put room before after text w at n q r is wrote size answer =
    record { said = said-piece room before after text w at n q r is wrote size answer; out = rw is wrote.out }

pub piece-none : (room : ℕ) (before text : List ℕ) (w r : Option ℕ) → w ≡ None → r ≡ None → PieceTold room before w text r before
unfolding piece_out
piece-none room before text w r is answer =
    record { said = said-nothing room before text w r is answer; out = rw is refl }

-- ---- a name and its number

pub named-told : (room n : ℕ) (name a b c : List ℕ) (w q r : Option ℕ) → PieceTold room a w name q b → PieceTold room b q (decimal_of n) r c → NamedTold room a w name n r c
unfolding named_out
named-told room n name a b c w q r first second =
    record {
      said = said-both first.said second.said;
      out =
          second.out ∙ ap (λ (l : List ℕ). piece_out l q (decimal_of n)) first.out
          ∙ ap (λ (v : Option ℕ). piece_out (piece_out a w name) v (decimal_of n)) first.said.answer;
    }

-- ---- a row

-- what a row has still to say, from a place on that is within the room
pub record Telling (room : ℕ) (a : List ℕ) (w : Option ℕ) (mark values b : List ℕ) (q : Option ℕ) (i : ℕ) : Type 0 where
  pub saying : Saying room a w (each_after mark values) b q (each_after mark (drop i values))
  pub out : each_from room a w mark values ≡ each_from room b q mark (drop i values)

each_turn : (mark values : List ℕ) (i : ℕ) → i < length values → each_after mark (drop i values) ≡ (mark ++ decimal_of (get_or values i 0)) ++ each_after mark (drop (i + 1) values)
unfolding each_after
each_turn mark values i h = rw (drop-cons values i 0 h, add-one)

from-turn : (room : ℕ) (mark values b : List ℕ) (q : Option ℕ) (i : ℕ) → i < length values → let n = get_or values i 0 in each_from room b q mark (drop i values) ≡ each_from room (named_out room b q mark n) (advanced room q (length (mark ++ decimal_of n))) mark (drop (i + 1) values)
unfolding each_from
from-turn room mark values b q i h = rw (drop-cons values i 0 h, add-one)

pub each_more : (room : ℕ) (mark values a b c : List ℕ) (i : ℕ) (w q r : Option ℕ) → Telling room a w mark values b q i → i < length values → NamedTold room b q mark (get_or values i 0) r c → Telling room a w mark values c r (i + 1)
each_more room mark values a b c i w q r t h one =
    let n = get_or values i 0 in
    record {
      saying = saying-more (rw (each_turn mark values i h) at t.saying) one.said;
      out =
          t.out ∙ from-turn room mark values b q i h
          ∙ ap (λ (l : List ℕ). each_from room l (advanced room q (length (mark ++ decimal_of n))) mark (drop (i + 1) values)) (sym one.out)
          ∙ ap (λ (v : Option ℕ). each_from room c v mark (drop (i + 1) values)) (sym one.said.answer);
    }

-- what was said, within the room, is a text of no bytes said
said-within : (room : ℕ) (a : List ℕ) (w q : Option ℕ) → q ≡ advanced room w 0 → Said room a w [] q a
said-within room a w q is = record { answer = is; holds = λ enough at end from to. refl; long = refl }

pub each-done : (room : ℕ) (mark values a b : List ℕ) (i : ℕ) (w q r : Option ℕ) → q ≡ advanced room w 0 → Telling room a q mark values b r i → length values ≤ i → EachTold room a w mark values r b
unfolding each_after each_from
each-done room mark values a b i w q r is t h =
    let none = drop_of_length-le values {i = i} h in
    let all : Said room a q (each_after mark values) r b = saying-done (rw none at t.saying) in
    record {
      said = said-both (said-within room a w q is) all;
      out = sym (rw none at t.out) ∙ ap (λ (v : Option ℕ). each_from room a v mark values) is;
    }
