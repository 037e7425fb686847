-- The positions that the steps give from the first pair on are the positions that differ, in their order.
use Prim.Native.Nat.{ℕ, ◌+◌, ◌≤◌}
use mathlib.Core.Path.{◌≡◌, refl, sym, ap, ap₂, ◌∙◌}
use mathlib.Core.Bool.{true, false}
use mathlib.Core.List.{List, [], ◌∷◌, map}
use native.Mathlib.Omega.{arith}
use lib.ListN.{length}
use Rattle.std.specs.Prelude.{Some, None, Ok}
use Rattle.kind.specs.Limits.{most_terms}
use Rattle.laws.proofs.Cases.{tested}
use Rattle.term.specs.declared.Term.{Term as Held}
use Rattle.term.specs.Terms.{Term, held, same_term}
use Rattle.roll.specs.inner.Held.{from_held}
use Rattle.roll.proofs.Steps.{from-held}
use Rattle.comparing.specs.declared.pair.Line.TheVariants as line
use Rattle.comparing.specs.declared.pair.Pair.{Pair}
use Rattle.comparing.specs.declared.pair.Met.{Met}
use Rattle.comparing.specs.Text.{Difference, both, left, right, differences}
use Rattle.comparing.specs.Pairs.{number_after, same_held, same_line, Answered, met_by, turn_of, lines_with, lines_of}
use Rattle.comparing.specs.Answers.{position_of}
use Rattle.comparing.specs.inner.Judged.{Gives}
use Rattle.comparing.proofs.PairLaws.{number_more, turn_at, turn-next, turn-end, turn-over}
use Rattle.comparing.proofs.DifferLaws.{lines-turn, lines-met}
use Rattle.comparing.proofs.Same.{held_same}

-- ---- one position

module _ (p : Pair) (s t : List ℕ) where
  -- a position that differs
  lines_more : (m : Met) → turn_of p s t ≡ Ok (Some m) → same_line m.line ≡ false → lines_of p s t ≡ m ∷ lines_of m.next s t
  lines_more m is off = lines-met p s t m (turn-next p s t m is off)

  -- one that does not
  lines-over : (m : Met) → turn_of p s t ≡ Ok (Some m) → same_line m.line ≡ true → lines_of p s t ≡ lines_of m.next s t
  lines-over m is on = lines-turn p s t ∙ ap (λ (x : Answered). lines_with x (λ q. lines_of q s t)) (turn-over p s t m is on) ∙ sym (lines-turn m.next s t)

  -- and the end
  lines_end : turn_of p s t ≡ Ok None → lines_of p s t ≡ []
  lines_end is = lines-turn p s t ∙ ap (λ (x : Answered). lines_with x (λ q. lines_of q s t)) (turn-end p s t is)

pub from_step : (x : Held) (t : Term) → x ≡ held t → from_held x ≡ t
from_step x t is = ap from_held is ∙ from-held t

-- ---- all positions

pub lines_are : (ls rs : List Term) (p : Pair) (s t : List ℕ) → Gives p.left s ls → Gives p.right t rs → p.number + length ls ≤ most_terms + 1 → p.number + length rs ≤ most_terms + 1 → map position_of (lines_of p s t) ≡ differences p.number ls rs
unfolding differences
lines_are [] [] p s t l r few less = ap (map position_of) (lines_end p s t (turn_at p s t (Ok None) (Ok None) l r))
lines_are (x ∷ ls) [] p s t l r few less =
    let one = l.0 in
    let m = met_by p.number (line.Left one.term) one.next p.right in
    let number : number_after p.number ≡ p.number + 1 = sym (number_more p.number (omega arith)) in
    let here : lines_of p s t ≡ m ∷ lines_of m.next s t = lines_more p s t m (turn_at p s t (Ok (Some one)) (Ok None) l.1 r) refl in
    let rest : map position_of (lines_of m.next s t) ≡ differences (number_after p.number) ls [] = lines_are ls [] m.next s t l.3 r (omega (arith, number)) (omega (arith, number)) in
    ap (map position_of) here ∙ ap₂ (λ (u : Term) (ds : List Difference). left p.number u ∷ ds) (from_step one.term x l.2) (rest ∙ ap (λ (n : ℕ). differences n ls []) number)
lines_are [] (y ∷ rs) p s t l r few less =
    let two = r.0 in
    let m = met_by p.number (line.Right two.term) p.left two.next in
    let number : number_after p.number ≡ p.number + 1 = sym (number_more p.number (omega arith)) in
    let here : lines_of p s t ≡ m ∷ lines_of m.next s t = lines_more p s t m (turn_at p s t (Ok None) (Ok (Some two)) l r.1) refl in
    let rest : map position_of (lines_of m.next s t) ≡ differences (number_after p.number) [] rs = lines_are [] rs m.next s t l r.3 (omega (arith, number)) (omega (arith, number)) in
    ap (map position_of) here ∙ ap₂ (λ (u : Term) (ds : List Difference). right p.number u ∷ ds) (from_step two.term y r.2) (rest ∙ ap (λ (n : ℕ). differences n [] rs) number)
lines_are (x ∷ ls) (y ∷ rs) p s t l r few less =
    let one = l.0 in
    let two = r.0 in
    let m = met_by p.number (line.Both one.term two.term) one.next two.next in
    let turn = turn_at p s t (Ok (Some one)) (Ok (Some two)) l.1 r.1 in
    let same : same_held one.term two.term ≡ same_term x y = ap₂ same_held l.2 r.2 ∙ held_same x y in
    let number : number_after p.number ≡ p.number + 1 = sym (number_more p.number (omega arith)) in
    let behind : map position_of (lines_of m.next s t) ≡ differences (p.number + 1) ls rs =
    lines_are ls rs m.next s t l.3 r.3 (omega (arith, number)) (omega (arith, number)) ∙ ap (λ (n : ℕ). differences n ls rs) number in
    tested (same_term x y)
    (λ on. rw on (ap (map position_of) (lines-over p s t m turn (same ∙ on)) ∙ behind))
    (λ off.
    rw off
    (ap (map position_of) (lines_more p s t m turn (same ∙ off))
    ∙ ap₂ (λ (u : Term) (ds : List Difference). both p.number u (from_held two.term) ∷ ds) (from_step one.term x l.2) behind
    ∙ ap (λ (u : Term). both p.number x u ∷ differences (p.number + 1) ls rs) (from_step two.term y r.2)))
