-- The pieces are the text: what the head says, and behind it the line of each position that the steps give from the first pair on, is what 02 asks for of the two rolls.
use Prim.Native.Nat.{ℕ, zero, suc, ◌+◌}
use mathlib.Core.Path.{◌≡◌, refl, sym, ap, ap₂, ◌∙◌}
use mathlib.Core.List.{List, ◌++◌, map, append-nil}
use lib.ListN.{length, length-map}
use Rattle.std.specs.Prelude.{Some, None, Result, Ok, Err}
use Rattle.kind.specs.declared.refusals.Fault.{Fault}
use Rattle.laws.proofs.Cases.{clash}
use Rattle.roll.specs.Field.{fault}
use Rattle.roll.specs.Reading.{Reading, got, refused, Roll}
use Rattle.form2.specs.declared.header.Opened2.{Opened2}
use Rattle.comparing.specs.declared.differ.Compared.{Compared}
use Rattle.comparing.specs.declared.pair.Met.{Met}
use Rattle.comparing.specs.declared.pair.Pair.{Pair}
use Rattle.comparing.specs.declared.sides.Side.TheVariants as side
use Rattle.comparing.specs.declared.sides.Sided.{Sided}
use Rattle.comparing.specs.Sides.{side_at, check_side, refused_on}
use Rattle.comparing.specs.Text.{differences, head_text, line_text, lines_text, compare_text, said_of}
use Rattle.comparing.specs.Pairs.{Answered, next_of, lines_with, lines_from, lines_of}
use Rattle.comparing.specs.Answers.{first_pair, compared_with, compared_as, compared_of, head_of, sided_text, compared_text, position_of, met_text, pieces_text, compared_lines}
use Rattle.comparing.specs.inner.Judged.{Judged}
use Rattle.comparing.proofs.Answered.{compared-as, used-orders, judged-lines, judged-compared}
use Rattle.comparing.proofs.Steps.{sided, side-refused}

-- ---- a line

-- the text of what a step met is the line of its position
pub piece-text : (m : Met) → met_text m ≡ line_text (position_of m)
unfolding met_text
piece-text m = refl

pieces-with : (x : Answered) (f : Pair → List Met) → ((q : Pair) → pieces_text (f q) ≡ lines_text (map position_of (f q))) → pieces_text (lines_with x f) ≡ lines_text (map position_of (lines_with x f))
unfolding pieces_text lines_text
pieces-with (Ok (Some m)) f each = ap₂ (λ (a b : List ℕ). a ++ b) (piece-text m) (each m.next)
pieces-with (Ok None) f each = refl
pieces-with (Err e) f each = refl

pieces-from : (n : ℕ) (p : Pair) (s t : List ℕ) → pieces_text (lines_from n p s t) ≡ lines_text (map position_of (lines_from n p s t))
unfolding lines_from pieces_text lines_text
pieces-from zero p s t = refl
pieces-from (suc n) p s t = pieces-with (next_of p s t) (λ q. lines_from n q s t) (λ q. pieces-from n q s t)

pieces-lines : (p : Pair) (s t : List ℕ) → pieces_text (lines_of p s t) ≡ lines_text (map position_of (lines_of p s t))
unfolding lines_of
pieces-lines p s t = pieces-from (p.left.cursor.left + p.right.cursor.left) p s t

-- ---- a side that reads is one that the judge takes

pub reads-judged : (s : List ℕ) (r : Roll) (end : ℕ) → side_at s ≡ got r end → (o : Opened2) × Judged o s
reads-judged s r end e = by (check_side s) refl
  where
    by : (x : Result Opened2 Fault) → check_side s ≡ x → (o : Opened2) × Judged o s
    by (Ok o) is = (o, sided s o is)
    by (Err why) is = let not = side-refused s why is in absurd (clash (cc))

-- ---- two rolls that read

module _ (s t : List ℕ) (o q : Opened2) (a : Judged o s) (b : Judged q t) where
  head-is : head_of (compared_with a.roll b.roll o q) ≡ head_text a.roll b.roll
  unfolding head_of head_text
  head-is = rw (used-orders o s a, used-orders q t b, a.kind, b.kind, a.left, b.left) refl

  lines-is : pieces_text (lines_of (first_pair o q) s t) ≡ lines_text (differences 1 a.roll.terms b.roll.terms)
  lines-is = pieces-lines (first_pair o q) s t ∙ ap lines_text (judged-lines s t o q a b)

  rolls-said : compared_text (compared_of s t) ++ pieces_text (compared_lines (compared_of s t) s t) ≡ compare_text a.roll b.roll
  unfolding compare_text
  rolls-said =
      ap (λ (x : Result Compared Sided). compared_text x ++ pieces_text (compared_lines x s t)) (judged-compared s t o q a b)
      ∙ ap₂ (λ (x y : List ℕ). x ++ y) head-is lines-is

  -- the first line's count is the number of positions listed
  pub count-listed : (c : Compared) → compared_of s t ≡ Ok c → c.differ ≡ length (lines_of c.cursor s t)
  count-listed c is =
      let made = judged-compared s t o q a b in
      let same : compared_with a.roll b.roll o q ≡ c = cc in
      rw (← same)
      (ap length (sym (judged-lines s t o q a b))
      ∙ length-map (lines_of (first_pair o q) s t) position_of)

-- ---- every two byte strings

pub pieces-are-text : (s t : List ℕ) → compared_text (compared_of s t) ++ pieces_text (compared_lines (compared_of s t) s t) ≡ said_of (side_at s) (side_at t)
unfolding pieces_text sided_text
pieces-are-text s t = by (side_at s) (side_at t) refl refl
  where
    refused-so : (x y : Reading Roll) (d : Sided) → side_at s ≡ x → side_at t ≡ y → compared_as x y s t ≡ Err d → sided_text d ≡ said_of x y → compared_text (compared_of s t) ++ pieces_text (compared_lines (compared_of s t) s t) ≡ said_of (side_at s) (side_at t)
    refused-so x y d one two is said =
        ap (λ (x : Result Compared Sided). compared_text x ++ pieces_text (compared_lines x s t)) (compared-as s t x y one two ∙ is)
        ∙ append-nil (sided_text d)
        ∙ said
        ∙ sym (ap₂ said_of one two)

    by : (x y : Reading Roll) → side_at s ≡ x → side_at t ≡ y → compared_text (compared_of s t) ++ pieces_text (compared_lines (compared_of s t) s t) ≡ said_of (side_at s) (side_at t)
    by (refused r place) y one two = refused-so (refused r place) y (refused_on side.Left (fault r place)) one two refl refl
    by (got l end) (refused r place) one two = refused-so (got l end) (refused r place) (refused_on side.Right (fault r place)) one two refl refl
    by (got l end) (got r last) one two =
        let a = reads-judged s l end one in
        let b = reads-judged t r last two in
        rolls-said s t a.0 b.0 a.1 b.1 ∙ sym (ap₂ said_of a.1.reads b.1.reads)
