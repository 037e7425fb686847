-- The pieces of a head and of a line, said in their order, are its text.
use Prim.Native.Nat.{ℕ, ◌-◌, ◌≤◌}
use native.Mathlib.Omega.{arith}
use mathlib.Core.Path.{◌≡◌, sym, ap, ◌∙◌}
use mathlib.Core.Bool.{Bool, true, false}
use mathlib.Core.List.{List, ◌++◌}
use borrow.Author.Tests.{leb-true, leb-false, le-leb}
use lib.Dec.{leb}
use lib.ListN.{length, take, drop}
use lib.Seq.{take_all}
use Rattle.kind.specs.Limits.{most_l·any}
use Rattle.laws.proofs.Cases.{tested}
use Rattle.term.specs.declared.Term.{Term as Held}
use Rattle.term.specs.Terms.{Term}
use Rattle.text.specs.Digits.{decimal_of}
use Rattle.roll.specs.inner.Held.{from_held}
use Rattle.listing.specs.Text.{blank, colon, feed, kind_word, refused_word, at_word, after_blanks}
use Rattle.saying.specs.Said.{Said, Kept, each_after}
use Rattle.saying.proofs.SaidLaws.{said-both, said-none}
use Rattle.listing.proofs.Lines.{each-blanks}
use Rattle.std.specs.Prelude.{Option, Some, min}
use Rattle.kind.specs.Refusals.{refusal_number}
use Rattle.comparing.specs.declared.differ.Compared.{Compared}
use Rattle.comparing.specs.declared.pair.Met.{Met}
use Rattle.comparing.specs.declared.pair.Line.TheVariants as line
use Rattle.comparing.specs.declared.pieces.Piece.{Piece}
use Rattle.comparing.specs.declared.pieces.Piece.TheVariants as piece
use Rattle.comparing.specs.declared.sides.Side.TheVariants as side
use Rattle.comparing.specs.declared.sides.Sided.{Sided}
use Rattle.comparing.specs.Text.{both, differ_word, orders_word, terms_word, bar, bar_blank, both_word, left_word, right_word, left_end, right_end, count_line, pair_line, orders_line, reading_text, numbered_text, one_line, line_text, refused_text}
use Rattle.comparing.specs.Answers.{used_of, head_of, sided_text, met_text}
use Rattle.comparing.specs.inner.Piece.{piece_text}

-- ---- a row

row-said : (room : ℕ) (a b c name values : List ℕ) (w q r : Option ℕ) → Said room a w name q b → Said room b q (each_after blank values) r c → Said room a w (name ++ after_blanks values) r c
row-said room a b c name values w q r named row = rw (each-blanks values) (said-both named row)

-- ---- a term

pub shown-few : (count n : ℕ) (ps : List ℕ) → n ≡ min count most_l·any → length ps ≡ most_l·any → n ≤ length ps
shown-few count n ps is long = omega arith

shown-take : (count n : ℕ) (ps : List ℕ) → n ≡ min count most_l·any → length ps ≡ most_l·any → take (n - 0) (drop 0 ps) ≡ take count ps
shown-take count n ps is long =
    tested (leb count most_l·any)
    (λ t. let all : n - 0 ≡ count = omega (arith, leb-true count most_l·any t) in ap (λ (i : ℕ). take i ps) all)
    (λ f.
    let most : n - 0 ≡ length ps = omega (arith, leb-false count most_l·any f) in
    let over = leb-false count most_l·any f in
    ap (λ (i : ℕ). take i ps) most ∙ take_all (length ps) ps (omega arith) ∙ sym (take_all count ps (omega arith)))

pub prefactors-said : (room : ℕ) (ps : List ℕ) (count n : ℕ) (a b c : List ℕ) (w q r : Option ℕ) → length ps ≡ most_l·any → n ≡ min count most_l·any → Said room a w colon q b → Said room b q (each_after blank (take (n - 0) (drop 0 ps))) r c → Said room a w (colon ++ after_blanks (take count ps)) r c
prefactors-said room ps count n a b c w q r long is one two = row-said room a b c colon (take count ps) w q r one (rw (shown-take count n ps is long) at two)

pub reading-said : (room : ℕ) (t : Held) (a b c d : List ℕ) (w p q r : Option ℕ) → Said room a w (decimal_of t.scale) p b → Said room b p (blank ++ decimal_of t.boys) q c → Said room c q (colon ++ after_blanks (take t.count t.prefactors)) r d → Said room a w (reading_text (from_held t)) r d
unfolding reading_text
reading-said room t a b c d w p q r one two three = said-both one (said-both two three)

-- ---- the lines

pub numbered-said : (room number : ℕ) (word : List ℕ) (t : Term) (a b c d : List ℕ) (u v w : Option ℕ) → Said room a (Some 0) (decimal_of number) u b → Said room b u word v c → Said room c v (reading_text t) w d → Said room a (Some 0) (numbered_text number word t) w d
unfolding numbered_text
numbered-said room number word t a b c d u v w one two three = said-both one (said-both two three)

pub both-said : (room number : ℕ) (l r : Term) (a b c d e : List ℕ) (u v w x : Option ℕ) → Said room a (Some 0) (numbered_text number both_word l) u b → Said room b u bar_blank v c → Said room c v (reading_text r) w d → Said room d w feed x e → Said room a (Some 0) (line_text (both number l r)) x e
unfolding line_text
both-said room number l r a b c d e u v w x one two three four = said-both one (said-both two (said-both three four))

pub one-said : (room number : ℕ) (side : List ℕ) (t : Term) (a b c : List ℕ) (u v : Option ℕ) → Said room a (Some 0) (numbered_text number side t) u b → Said room b u feed v c → Said room a (Some 0) (one_line number side t) v c
unfolding one_line
one-said room number side t a b c u v one two = said-both one two

refused-said : (room refusal place : ℕ) (side a b c d : List ℕ) (u v w : Option ℕ) → Said room a (Some 0) (refused_word ++ decimal_of refusal) u b → Said room b u (at_word ++ decimal_of place) v c → Said room c v side w d → Said room a (Some 0) ((refused_word ++ decimal_of refusal) ++ ((at_word ++ decimal_of place) ++ side)) w d
refused-said room refusal place side a b c d u v w one two three = said-both one (said-both two three)

pub sided-left : (room n : ℕ) (e : Sided) (a b c d : List ℕ) (u v w : Option ℕ) → n ≡ refusal_number e.fault.refusal → Said room a (Some 0) (refused_word ++ decimal_of n) u b → Said room b u (at_word ++ decimal_of e.fault.place) v c → e.side ≡ side.Left → Said room c v left_end w d → Said room a (Some 0) (sided_text e) w d
unfolding sided_text refused_text
sided-left room n e a b c d u v w number one two is three = rw (is, ← number) (refused-said room n e.fault.place left_end a b c d u v w one two three)

pub sided-right : (room n : ℕ) (e : Sided) (a b c d : List ℕ) (u v w : Option ℕ) → n ≡ refusal_number e.fault.refusal → Said room a (Some 0) (refused_word ++ decimal_of n) u b → Said room b u (at_word ++ decimal_of e.fault.place) v c → e.side ≡ side.Right → Said room c v right_end w d → Said room a (Some 0) (sided_text e) w d
unfolding sided_text refused_text
sided-right room n e a b c d u v w number one two is three = rw (is, ← number) (refused-said room n e.fault.place right_end a b c d u v w one two three)

-- ---- the head

pub pair-said : (room : ℕ) (on : Bool) (name : List ℕ) (l r : ℕ) (a b c d : List ℕ) (w x y z : Option ℕ) → on ≡ true → Said room a w (name ++ decimal_of l) x b → Said room b x (bar_blank ++ decimal_of r) y c → Said room c y feed z d → Said room a w (pair_line on name l r) z d
unfolding pair_line
pair-said room on name l r a b c d w x y z is one two three = rw is (said-both one (said-both two three))

pub pair-none : (room : ℕ) (on : Bool) (name : List ℕ) (l r : ℕ) (a : List ℕ) (w : Option ℕ) → on ≡ false → Kept room w → Said room a w (pair_line on name l r) w a
unfolding pair_line
pair-none room on name l r a w is kept = rw is (said-none room a w kept)

pub orders-said : (room : ℕ) (on : Bool) (l r a b c d : List ℕ) (w x y z : Option ℕ) → on ≡ true → Said room a w (orders_word ++ after_blanks l) x b → Said room b x (bar ++ after_blanks r) y c → Said room c y feed z d → Said room a w (orders_line on l r) z d
unfolding orders_line
orders-said room on l r a b c d w x y z is one two three = rw is (said-both one (said-both two three))

pub orders-none : (room : ℕ) (on : Bool) (l r a : List ℕ) (w : Option ℕ) → on ≡ false → Kept room w → Said room a w (orders_line on l r) w a
unfolding orders_line
orders-none room on l r a w is kept = rw is (said-none room a w kept)

pub first_said : (room n : ℕ) (on : Bool) (l r : ℕ) (a b c d : List ℕ) (w x y : Option ℕ) → Said room a (Some 0) (decimal_of n) w b → Said room b w (differ_word ++ feed) x c → Said room c x (pair_line on kind_word l r) y d → Said room a (Some 0) (count_line n ++ pair_line on kind_word l r) y d
unfolding count_line
first_said room n on l r a b c d w x y one two three = said-both (said-both one two) three

pub used-said : (room kind n : ℕ) (name os a b c : List ℕ) (w q r : Option ℕ) → n ≡ used_of kind → Said room a w name q b → Said room b q (each_after blank (take (n - 0) (drop 0 os))) r c → Said room a w (name ++ after_blanks (take (used_of kind) os)) r c
used-said room kind n name os a b c w q r is one two =
    let all : n - 0 ≡ used_of kind = omega (arith, is) in
    row-said room a b c name (take (used_of kind) os) w q r one (rw all at two)

pub head-said : (room : ℕ) (k : Compared) (a b c d : List ℕ) (w x y : Option ℕ) → Said room a (Some 0) (count_line k.differ ++ pair_line k.kinds kind_word k.cursor.left.cursor.kind k.cursor.right.cursor.kind) w b → Said room b w (orders_line k.orders (take (used_of k.cursor.left.cursor.kind) k.left) (take (used_of k.cursor.right.cursor.kind) k.right)) x c → Said room c x (pair_line k.terms terms_word k.cursor.left.cursor.left k.cursor.right.cursor.left) y d → Said room a (Some 0) (head_of k) y d
unfolding head_of
head-said room k a b c d w x y one two three = said-both one (said-both two three)

-- ---- the end

pub end-said : (room : ℕ) (p : Piece) (a : List ℕ) → p ≡ piece.End → Said room a (Some 0) (piece_text p) (Some 0) a
end-said room p a is = rw is (said-none room a (Some 0) (rw (le-leb 0 room (omega arith))))

-- ---- a position's line

module _ (room : ℕ) (m : Met) (a b : List ℕ) (w : Option ℕ) where
  pub met-both : (l r : Held) → m.line ≡ line.Both l r → Said room a (Some 0) (line_text (both m.number (from_held l) (from_held r))) w b → Said room a (Some 0) (met_text m) w b
  unfolding met_text
  met-both l r is said = rw is said

  pub met-left : (l : Held) → m.line ≡ line.Left l → Said room a (Some 0) (one_line m.number left_word (from_held l)) w b → Said room a (Some 0) (met_text m) w b
  unfolding met_text line_text
  met-left l is said = rw is said

  pub met-right : (r : Held) → m.line ≡ line.Right r → Said room a (Some 0) (one_line m.number right_word (from_held r)) w b → Said room a (Some 0) (met_text m) w b
  unfolding met_text line_text
  met-right r is said = rw is said
