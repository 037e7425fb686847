-- From the first pair of two rolls that read, each step gives the next position that differs and goes on behind it, and the last one gives the end: no step is refused.
use Prim.Native.Nat.{ℕ, ◌+◌, ◌≤◌}
use mathlib.Core.Path.{◌≡◌, refl, sym, ap, ap₂, ◌∙◌}
use mathlib.Core.Bool.{false}
use mathlib.Core.List.{List, [], ◌∷◌}
use native.Mathlib.Omega.{arith}
use lib.ListN.{length}
use Rattle.std.specs.Prelude.{Some, None, Ok}
use Rattle.kind.specs.Limits.{most_terms}
use Rattle.laws.proofs.Cases.{tested}
use Rattle.term.specs.Terms.{Term, same_term}
use Rattle.roll.specs.inner.Held.{from_held}
use Rattle.form2.specs.declared.header.Opened2.{Opened2}
use Rattle.comparing.specs.declared.pair.Line.TheVariants as line
use Rattle.comparing.specs.declared.pair.Pair.{Pair}
use Rattle.comparing.specs.declared.pair.Met.{Met}
use Rattle.comparing.specs.Text.{both, left, right, differences}
use Rattle.comparing.specs.Pairs.{number_after, same_held, same_line, met_by, turn_of, next_of}
use Rattle.comparing.specs.Answers.{first_pair, position_of}
use Rattle.comparing.specs.inner.Judged.{Gives, Judged}
use Rattle.comparing.proofs.Lines.{from_step}
use Rattle.comparing.proofs.PairLaws.{number_more, turn_at, turn-next, turn-end, turn-over}
use Rattle.comparing.proofs.Same.{held_same}

-- a pair whose sides give these terms, and the end
pub record Ahead (p : Pair) (s t : List ℕ) (ls rs : List Term) : Type 0 where
  pub left-gives : Gives p.left s ls
  pub right-gives : Gives p.right t rs
  pub left-few : p.number + length ls ≤ most_terms + 1
  pub right-few : p.number + length rs ≤ most_terms + 1

-- what a step from it meets: the end, where no position differs, or the first that does
pub data Next (p : Pair) (s t : List ℕ) (ls rs : List Term) : Type 0 where
  ended : next_of p s t ≡ Ok None → differences p.number ls rs ≡ [] → Next p s t ls rs
  goes : (m : Met) (us vs : List Term) → next_of p s t ≡ Ok (Some m) → Ahead m.next s t us vs → differences p.number ls rs ≡ position_of m ∷ differences m.next.number us vs → Next p s t ls rs

module _ (p : Pair) (s t : List ℕ) (ls rs : List Term) where
  -- a position that differs is met
  meets : (m : Met) (us vs : List Term) → turn_of p s t ≡ Ok (Some m) → same_line m.line ≡ false → Ahead m.next s t us vs → differences p.number ls rs ≡ position_of m ∷ differences m.next.number us vs → Next p s t ls rs
  meets m us vs is off ahead differ = goes m us vs (turn-next p s t m is off) ahead differ

  -- one that does not is gone over
  over : (q : Pair) (us vs : List Term) → next_of p s t ≡ next_of q s t → differences p.number ls rs ≡ differences q.number us vs → Next q s t us vs → Next p s t ls rs
  over q us vs is same (ended end none) = ended (is ∙ end) (same ∙ none)
  over q us vs is same (goes m xs ys met ahead differ) = goes m xs ys (is ∙ met) ahead (same ∙ differ)

pub next-told : (ls rs : List Term) (p : Pair) (s t : List ℕ) → Ahead p s t ls rs → Next p s t ls rs
unfolding differences
next-told [] [] p s t a = ended (turn-end p s t (turn_at p s t (Ok None) (Ok None) a.left-gives a.right-gives)) refl
next-told (x ∷ ls) [] p s t a =
    let l = a.left-gives in
    let r = a.right-gives in
    let one = l.0 in
    let m = met_by p.number (line.Left one.term) one.next p.right in
    let number : number_after p.number ≡ p.number + 1 = sym (number_more p.number (omega (arith, a.left-few))) in
    let ahead : Ahead m.next s t ls [] = record { left-gives = l.3; right-gives = r; left-few = omega (arith, number, a.left-few); right-few = omega (arith, number, a.right-few) } in
    meets p s t (x ∷ ls) [] m ls [] (turn_at p s t (Ok (Some one)) (Ok None) l.1 r) refl ahead
    (ap₂ (λ (u : Term) (n : ℕ). left p.number u ∷ differences n ls []) (sym (from_step one.term x l.2)) (sym number))
next-told [] (y ∷ rs) p s t a =
    let l = a.left-gives in
    let r = a.right-gives in
    let two = r.0 in
    let m = met_by p.number (line.Right two.term) p.left two.next in
    let number : number_after p.number ≡ p.number + 1 = sym (number_more p.number (omega (arith, a.right-few))) in
    let ahead : Ahead m.next s t [] rs = record { left-gives = l; right-gives = r.3; left-few = omega (arith, number, a.left-few); right-few = omega (arith, number, a.right-few) } in
    meets p s t [] (y ∷ rs) m [] rs (turn_at p s t (Ok None) (Ok (Some two)) l r.1) refl ahead
    (ap₂ (λ (u : Term) (n : ℕ). right p.number u ∷ differences n [] rs) (sym (from_step two.term y r.2)) (sym number))
next-told (x ∷ ls) (y ∷ rs) p s t a =
    let l = a.left-gives in
    let r = a.right-gives in
    let one = l.0 in
    let two = r.0 in
    let m = met_by p.number (line.Both one.term two.term) one.next two.next in
    let turn = turn_at p s t (Ok (Some one)) (Ok (Some two)) l.1 r.1 in
    let same : same_held one.term two.term ≡ same_term x y = ap₂ same_held l.2 r.2 ∙ held_same x y in
    let number : number_after p.number ≡ p.number + 1 = sym (number_more p.number (omega (arith, a.left-few))) in
    let ahead : Ahead m.next s t ls rs = record { left-gives = l.3; right-gives = r.3; left-few = omega (arith, number, a.left-few); right-few = omega (arith, number, a.right-few) } in
    let rest = next-told ls rs m.next s t ahead in
    tested (same_term x y)
    (λ on. over p s t (x ∷ ls) (y ∷ rs) m.next ls rs (turn-over p s t m turn (same ∙ on)) (rw on (ap (λ (n : ℕ). differences n ls rs) (sym number))) rest)
    (λ off.
    meets p s t (x ∷ ls) (y ∷ rs) m ls rs turn (same ∙ off) ahead
    (rw off
    (ap₂ (λ (u : Term) (n : ℕ). both p.number u y ∷ differences n ls rs) (sym (from_step one.term x l.2)) (sym number)
    ∙ ap (λ (u : Term). both p.number (from_held one.term) u ∷ differences (number_after p.number) ls rs) (sym (from_step two.term y r.2)))))

-- the first pair of two rolls that read
pub first-ahead : (s t : List ℕ) (o q : Opened2) (a : Judged o s) (b : Judged q t) → Ahead (first_pair o q) s t a.roll.terms b.roll.terms
first-ahead s t o q a b = record { left-gives = a.gives; right-gives = b.gives; left-few = omega (arith, a.few); right-few = omega (arith, b.few) }
