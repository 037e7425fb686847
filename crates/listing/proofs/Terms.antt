-- Each turn of the cursor says one term's line: a cursor whose terms all read gives the next of them, and the next cursor reads the rest.
use Prim.Native.Nat.{ℕ, ◌+◌, ◌^◌, ◌≤◌, ◌<◌}
use native.Mathlib.Omega.{arith}
use mathlib.Core.Path.{◌≡◌, refl, ap, sym, ◌∙◌}
use mathlib.Core.Bool.{Bool, true, false, cond}
use mathlib.Core.List.{List, [], ◌∷◌, ◌++◌}
use borrow.Author.Tests.{eq-eqb, ltb-true, ltb-false}
use lib.Dec.{eqb, ltb}
use lib.ListN.{length}
use Rattle.laws.proofs.Cases.{clash, tested}
use Rattle.term.specs.declared.Term.{Term as Held}
use Rattle.term.specs.Terms.{Term, held}
use Rattle.roll.specs.declared.cursor.Cursor.{Cursor}
use Rattle.roll.specs.declared.cursor.Step.{Step}
use Rattle.roll.specs.Cursor.{Stepped, refused_step, end_step, end_or, step_of}
use Rattle.roll.specs.inner.Held.{from_held}
use Rattle.roll.specs.inner.Judged.{left_of, Readable}
use Rattle.roll.proofs.JudgeLaws.{honest-step, terms-none, none_left}
use Rattle.roll.proofs.Steps.{from-held, held-count, StepGives, readable-gives, left-terms}
use Rattle.listing.specs.Text.{term_line, term_lines}
use Rattle.saying.specs.Said.{Said, Kept}
use Rattle.saying.proofs.SaidLaws.{Saying, saying-all, saying-more, saying-done}
use Rattle.std.specs.Prelude.{Option, Some, None}
use Rattle.std.specs.Option.{option_flatten}
use Rattle.std.specs.Result.{result_ok}
use Rattle.kind.specs.declared.refusals.Refusal.TheVariants.{BadRoll}

-- ---- a step of a cursor whose terms all read

-- the term that a cursor gives, as the loop takes it; none at the end, and none at a refusal
abbrev pub taken : Stepped → Option Step
taken y = option_flatten (result_ok y)

-- there is one while a term is left
left-taken : (c : Cursor) (s : List ℕ) (r : Readable c s) → 0 < c.left → (x : Step) × (taken (step_of c s) ≡ Some x) × StepGives c s r.terms r.end x
left-taken c s r some = let g = readable-gives c s r some in (g.step, ap taken g.ok, g.gives)

end_taken : (b : Bool) (place : ℕ) → taken (cond b end_step (refused_step BadRoll place)) ≡ None
end_taken true place = refl
end_taken false place = refl

none-taken : (c : Cursor) (s : List ℕ) (r : Readable c s) → c.left ≡ 0 → taken (step_of c s) ≡ None
none-taken c s r none =
    let step : step_of c s ≡ end_or s c.place = honest-step c s r.honest ∙ simp (eq-eqb c.left 0 none) in
    ap taken step ∙ end_taken (eqb c.place (length s)) c.place

pub taken-is : (c : Cursor) (s : List ℕ) (y : Stepped) (o : Option (Option Step)) (z : Option Step) → y ≡ step_of c s → o ≡ result_ok y → z ≡ option_flatten o → z ≡ taken (step_of c s)
taken-is c s y o z is ok flat = flat ∙ ap option_flatten ok ∙ ap taken is

pub taken-gives : (c : Cursor) (s : List ℕ) (r : Readable c s) (x : Step) → Some x ≡ taken (step_of c s) → (0 < c.left) × StepGives c s r.terms r.end x
taken-gives c s r x e =
    tested (ltb 0 c.left)
    (λ t.
    let some = ltb-true 0 c.left t in
    let g = left-taken c s r some in
    let is = g.1 in
    let same : g.0 ≡ x = cc in
    (some, rw same at g.2))
    (λ f. let none = none-taken c s r (let most = ltb-false 0 c.left f in omega arith) in absurd (clash (cc)))

pub none_taken : (c : Cursor) (s : List ℕ) (r : Readable c s) → None ≡ taken (step_of c s) → r.terms ≡ []
none_taken c s r e =
    tested (ltb 0 c.left)
    (λ t. let g = left-taken c s r (ltb-true 0 c.left t) in let is = g.1 in absurd (clash (cc)))
    (λ f. none_left c.place r.terms r.end (eqb c.place (length s)) (sym (terms-none c.left r.honest.kind c.l s c.place (let none = ltb-false 0 c.left f in omega arith)) ∙ r.reads))

-- ---- the loop

pub record Listing (room : ℕ) (a : List ℕ) (w : Option ℕ) (s : List ℕ) (start : Cursor) (b : List ℕ) (said : Option ℕ) (c : Cursor) (number : ℕ) : Type 0 where
  pub readable : Readable c s
  pub saying : Saying room a w (term_lines 1 (left_of start s)) b said (term_lines number readable.terms)
  pub few : number + c.left ≤ 1 + 2 ^ 32

pub listing-first : (room : ℕ) (a : List ℕ) (w : Option ℕ) (s : List ℕ) (c : Cursor) → Kept room w → Readable c s → c.left < 2 ^ 32 → Listing room a w s c a w c 1
listing-first room a w s c kept r small =
    record {
      readable = r;
      saying = rw (left-terms c s r) (saying-all room a w (term_lines 1 r.terms) kept);
      few = omega arith;
    }

pub listing-count : (room : ℕ) (a : List ℕ) (w : Option ℕ) (s : List ℕ) (start : Cursor) (b : List ℕ) (said : Option ℕ) (c : Cursor) (number : ℕ) (y : Stepped) (o : Option (Option Step)) (z : Option Step) (x : Step) → Listing room a w s start b said c number → y ≡ step_of c s → o ≡ result_ok y → z ≡ option_flatten o → z ≡ Some x → x.term.count ≤ length x.term.prefactors
listing-count room a w s start b said c number y o z x l is ok flat one = let t = (taken-gives c s l.readable x (sym one ∙ taken-is c s y o z is ok flat)).1 in rw t.gives (held-count t.term)

pub listing-falls : (room : ℕ) (a : List ℕ) (w : Option ℕ) (s : List ℕ) (start : Cursor) (b : List ℕ) (said : Option ℕ) (c : Cursor) (number : ℕ) (y : Stepped) (o : Option (Option Step)) (z : Option Step) (x : Step) → Listing room a w s start b said c number → y ≡ step_of c s → o ≡ result_ok y → z ≡ option_flatten o → z ≡ Some x → x.next.left < c.left
listing-falls room a w s start b said c number y o z x l is ok flat one = let t = taken-gives c s l.readable x (sym one ∙ taken-is c s y o z is ok flat) in omega (arith, t.0, t.1.left)

pub listing-fits : (room : ℕ) (a : List ℕ) (w : Option ℕ) (s : List ℕ) (start : Cursor) (b : List ℕ) (said : Option ℕ) (c : Cursor) (number : ℕ) → Listing room a w s start b said c number → number + 1 < 2 ^ 64
listing-fits room a w s start b said c number l = omega (arith, l.few)

lines-turn : (number : ℕ) (ts : List Term) (t : Term) (rest : List Term) (x : Held) → ts ≡ t ∷ rest → x ≡ held t → term_lines number ts ≡ term_line number (from_held x) ++ term_lines (number + 1) rest
unfolding term_lines
lines-turn number ts t rest x is gives = rw (is, gives, from-held t)

pub listing-more : (room : ℕ) (a : List ℕ) (w : Option ℕ) (s : List ℕ) (start : Cursor) (b : List ℕ) (said : Option ℕ) (c : Cursor) (number : ℕ) (y : Stepped) (o : Option (Option Step)) (z : Option Step) (x : Step) (r : Option ℕ) (d : List ℕ) → Listing room a w s start b said c number → y ≡ step_of c s → o ≡ result_ok y → z ≡ option_flatten o → z ≡ Some x → Said room b said (term_line number (from_held x.term)) r d → Listing room a w s start d r x.next (number + 1)
listing-more room a w s start b said c number y o z x r d l is ok flat one line =
    let t = (taken-gives c s l.readable x (sym one ∙ taken-is c s y o z is ok flat)).1 in
    record {
      readable = record { honest = t.honest; terms = t.rest; end = l.readable.end; reads = t.reads };
      saying = saying-more (rw (lines-turn number l.readable.terms t.term t.rest x.term t.is t.gives) at l.saying) line;
      few = omega (arith, l.few, t.left, (taken-gives c s l.readable x (sym one ∙ taken-is c s y o z is ok flat)).0);
    }

pub listing-done : (room : ℕ) (a : List ℕ) (w : Option ℕ) (s : List ℕ) (start : Cursor) (b : List ℕ) (said : Option ℕ) (c : Cursor) (number : ℕ) (y : Stepped) (o : Option (Option Step)) (z : Option Step) → Listing room a w s start b said c number → y ≡ step_of c s → o ≡ result_ok y → z ≡ option_flatten o → z ≡ None → Said room a w (term_lines 1 (left_of start s)) said b
unfolding term_lines
listing-done room a w s start b said c number y o z l is ok flat end =
    let none : l.readable.terms ≡ [] = none_taken c s l.readable (sym end ∙ taken-is c s y o z is ok flat) in
    saying-done (rw none at l.saying)
