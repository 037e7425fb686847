-- Each turn of the cursor says one term's line: a cursor whose terms all read gives the next of them, and the next cursor reads the rest.
use Prim.Native.Nat.{ℕ, ◌≤◌, ◌<◌}
use native.Mathlib.Omega.{arith}
use mathlib.Core.Path.{◌≡◌, ap, sym, ◌∙◌}
use mathlib.Core.List.{List, [], ◌∷◌, ◌++◌}
use lib.ListN.{length}
use Rattle.term.specs.declared.Term.{Term as Held}
use Rattle.term.specs.Terms.{Term, held}
use Rattle.roll.specs.declared.cursor.Cursor.{Cursor}
use Rattle.roll.specs.declared.cursor.Step.{Step}
use Rattle.roll.specs.Cursor.{Stepped, step_of}
use Rattle.roll.specs.inner.Held.{from_held}
use Rattle.roll.specs.inner.Judged.{left_of, Readable}
use Rattle.roll.proofs.Steps.{from-held, held-count, left-terms}
use Rattle.listing.proofs.Terms.{taken-is, taken-gives, none_taken}
use Rattle.saying.specs.Said.{Said, Kept}
use Rattle.saying.proofs.SaidLaws.{Saying, saying-all, saying-more, saying-done}
use Rattle.exporting.specs.Text.{line_of, term_numbers, term_lines}
use Rattle.std.specs.Prelude.{Option, Some, None}
use Rattle.std.specs.Option.{option_flatten}
use Rattle.std.specs.Result.{result_ok}

pub record Exporting (room : ℕ) (a : List ℕ) (w : Option ℕ) (s : List ℕ) (start : Cursor) (b : List ℕ) (said : Option ℕ) (c : Cursor) : Type 0 where
  pub readable : Readable c s
  pub saying : Saying room a w (term_lines (left_of start s)) b said (term_lines readable.terms)

pub terms-first : (room : ℕ) (a : List ℕ) (w : Option ℕ) (s : List ℕ) (c : Cursor) → Kept room w → Readable c s → Exporting room a w s c a w c
terms-first room a w s c kept r = record { readable = r; saying = rw (left-terms c s r) (saying-all room a w (term_lines r.terms) kept) }

module _ (room : ℕ) (a : List ℕ) (w : Option ℕ) (s : List ℕ) (start : Cursor) (b : List ℕ) (said : Option ℕ) (c : Cursor) where
  pub terms-count : (y : Stepped) (o : Option (Option Step)) (z : Option Step) (x : Step) → Exporting room a w s start b said c → y ≡ step_of c s → o ≡ result_ok y → z ≡ option_flatten o → z ≡ Some x → x.term.count ≤ length x.term.prefactors
  terms-count y o z x l is ok flat one = let t = (taken-gives c s l.readable x (sym one ∙ taken-is c s y o z is ok flat)).1 in rw t.gives (held-count t.term)

  pub terms-fall : (y : Stepped) (o : Option (Option Step)) (z : Option Step) (x : Step) → Exporting room a w s start b said c → y ≡ step_of c s → o ≡ result_ok y → z ≡ option_flatten o → z ≡ Some x → x.next.left < c.left
  terms-fall y o z x l is ok flat one = let t = taken-gives c s l.readable x (sym one ∙ taken-is c s y o z is ok flat) in omega (arith, t.0, t.1.left)

lines-turn : (ts : List Term) (t : Term) (rest : List Term) (x : Held) → ts ≡ t ∷ rest → x ≡ held t → term_lines ts ≡ line_of (term_numbers (from_held x)) ++ term_lines rest
unfolding term_lines
lines-turn ts t rest x is gives = rw (is, gives) (ap (λ (u : Term). line_of (term_numbers u) ++ term_lines rest) (sym (from-held t)))

module _ (room : ℕ) (a : List ℕ) (w : Option ℕ) (s : List ℕ) (start : Cursor) (b : List ℕ) (said : Option ℕ) (c : Cursor) where
  pub terms-more : (y : Stepped) (o : Option (Option Step)) (z : Option Step) (x : Step) (r : Option ℕ) (d : List ℕ) → Exporting room a w s start b said c → y ≡ step_of c s → o ≡ result_ok y → z ≡ option_flatten o → z ≡ Some x → Said room b said (line_of (term_numbers (from_held x.term))) r d → Exporting room a w s start d r x.next
  terms-more y o z x r d l is ok flat one line =
      let t = (taken-gives c s l.readable x (sym one ∙ taken-is c s y o z is ok flat)).1 in
      record {
        readable = record { honest = t.honest; terms = t.rest; end = l.readable.end; reads = t.reads };
        saying = saying-more (rw (lines-turn l.readable.terms t.term t.rest x.term t.is t.gives) at l.saying) line;
      }

  pub terms-done : (y : Stepped) (o : Option (Option Step)) (z : Option Step) → Exporting room a w s start b said c → y ≡ step_of c s → o ≡ result_ok y → z ≡ option_flatten o → z ≡ None → Said room a w (term_lines (left_of start s)) said b
  unfolding term_lines
  terms-done y o z l is ok flat end =
      let none : l.readable.terms ≡ [] = none_taken c s l.readable (sym end ∙ taken-is c s y o z is ok flat) in
      saying-done (rw none at l.saying)
