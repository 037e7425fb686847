-- Swapping the sides swaps the sides of every line, and changes no number and no count.
use Prim.Native.Nat.{ℕ, ◌+◌}
use mathlib.Core.Path.{◌≡◌, refl, sym, ap, ◌∙◌}
use mathlib.Core.Bool.{not}
use mathlib.Core.List.{List, [], ◌∷◌, ◌++◌, map}
use borrow.Author.Tests.{eq-eqb, eqb-true}
use lib.Dec.{eqb}
use lib.ListN.{length, length-map}
use Rattle.kind.specs.Kinds.{number_of}
use Rattle.laws.proofs.Cases.{tested}
use Rattle.term.specs.Terms.{Term, same_term}
use Rattle.roll.specs.Reading.{got, Roll}
use Rattle.listing.specs.Text.{kind_word}
use Rattle.comparing.specs.declared.differ.Compared.{Compared}
use Rattle.comparing.specs.Sides.{side_at}
use Rattle.comparing.specs.Answers.{compared_with, compared_of}
use Rattle.comparing.proofs.Answered.{judged-compared}
use Rattle.comparing.proofs.Whole.{reads-judged}
use Rattle.std.specs.Prelude.{Ok}
use Rattle.laws.specs.Same.{same_numbers}
use Rattle.comparing.specs.Text.{Difference, both, left, right, differences, terms_word, count_line, pair_line, orders_line, kinds_differ, orders_differ, terms_differ, head_text, lines_text, compare_text}
use Rattle.laws.proofs.SameLaws.{same-numbers, same-numbers-is}
use Rattle.term.proofs.SameTerms.{term-same, term-equal}
use Rattle.comparing.proofs.Same.{alike}

abbrev pub swap : Difference → Difference
swap (both n l r) = both n r l
swap (left n t) = right n t
swap (right n t) = left n t

same-swapped : (l r : Term) → same_term r l ≡ same_term l r
same-swapped l r = alike (same_term r l) (same_term l r) (λ e. term-same l r (sym (term-equal r l e))) (λ e. term-same r l (sym (term-equal l r e)))

pub swapped-lines : (n : ℕ) (ls rs : List Term) → differences n rs ls ≡ map swap (differences n ls rs)
unfolding differences
swapped-lines n [] [] = refl
swapped-lines n (l ∷ ls) [] = ap (λ (ds : List Difference). right n l ∷ ds) (swapped-lines (n + 1) ls [])
swapped-lines n [] (r ∷ rs) = ap (λ (ds : List Difference). left n r ∷ ds) (swapped-lines (n + 1) [] rs)
swapped-lines n (l ∷ ls) (r ∷ rs) =
    let rest = swapped-lines (n + 1) ls rs in
    let back = same-swapped l r in
    tested (same_term l r)
    (λ on. rw (on, back ∙ on) rest)
    (λ off. rw (off, back ∙ off) (ap (λ (ds : List Difference). both n r l ∷ ds) rest))

pub swapped-count : (n : ℕ) (ls rs : List Term) → length (differences n rs ls) ≡ length (differences n ls rs)
swapped-count n ls rs = ap length (swapped-lines n ls rs) ∙ length-map (differences n ls rs) swap

eqb-swapped : (n m : ℕ) → eqb n m ≡ eqb m n
eqb-swapped n m = alike (eqb n m) (eqb m n) (λ e. eq-eqb m n (sym (eqb-true n m e))) (λ e. eq-eqb n m (sym (eqb-true m n e)))

numbers-swapped : (l r : List ℕ) → same_numbers l r ≡ same_numbers r l
numbers-swapped l r = alike (same_numbers l r) (same_numbers r l) (λ e. same-numbers r l (sym (same-numbers-is l r e))) (λ e. same-numbers l r (sym (same-numbers-is r l e)))

-- the whole text with the sides swapped: the same count, the same lines, each with its sides swapped
pub swapped-text : (l r : Roll) → compare_text r l ≡
    ((count_line (length (differences 1 l.terms r.terms)) ++ pair_line (kinds_differ l r) kind_word (number_of r.kind) (number_of l.kind))
    ++ (orders_line (orders_differ l r) r.orders l.orders ++ pair_line (terms_differ l r) terms_word (length r.terms) (length l.terms)))
    ++ lines_text (map swap (differences 1 l.terms r.terms))
unfolding compare_text head_text
swapped-text l r =
    let count = swapped-count 1 l.terms r.terms in
    let kinds : kinds_differ r l ≡ kinds_differ l r = ap not (eqb-swapped (number_of r.kind) (number_of l.kind)) in
    let orders : orders_differ r l ≡ orders_differ l r = ap not (numbers-swapped r.orders l.orders) in
    let terms : terms_differ r l ≡ terms_differ l r = ap not (eqb-swapped (length r.terms) (length l.terms)) in
    let lines = swapped-lines 1 l.terms r.terms in
    rw (count, kinds, orders, terms, lines) refl

-- and so does the answer: the same counts, with the sides swapped
pub record SwappedAnswer (there back : Compared) : Type 0 where
  pub differ : back.differ ≡ there.differ
  pub kinds : back.kinds ≡ there.kinds
  pub orders : back.orders ≡ there.orders
  pub terms : back.terms ≡ there.terms
  pub left_is : back.left ≡ there.right
  pub right_is : back.right ≡ there.left

-- each side that reads gives an answer
pub swapped-answer : (s t : List ℕ) (l r : Roll) (end last : ℕ) → side_at s ≡ got l end → side_at t ≡ got r last → (there : Compared) × (back : Compared) × (compared_of s t ≡ Ok there) × (compared_of t s ≡ Ok back) × SwappedAnswer there back
swapped-answer s t l r end last one two =
    let a = reads-judged s l end one in
    let b = reads-judged t r last two in
    let there = judged-compared s t a.0 b.0 a.1 b.1 in
    let back = judged-compared t s b.0 a.0 b.1 a.1 in
    let ls = a.1.roll in
    let rs = b.1.roll in (
      compared_with ls rs a.0 b.0,
      compared_with rs ls b.0 a.0,
      there,
      back,
      record {
        differ = swapped-count 1 ls.terms rs.terms;
        kinds = ap not (eqb-swapped (number_of rs.kind) (number_of ls.kind));
        orders = ap not (numbers-swapped rs.orders ls.orders);
        terms = ap not (eqb-swapped (length rs.terms) (length ls.terms));
        left_is = refl;
        right_is = refl;
      },
    )
