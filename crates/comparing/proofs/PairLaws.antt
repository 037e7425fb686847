-- Both rolls beside each other: one position, and the step that goes over the same terms. Each turn leaves the left side one term less, so a step ends.
use Prim.Native.Nat.{ℕ, zero, suc, ◌+◌, ◌-◌, ◌≤◌, ◌<◌}
use native.Mathlib.Omega.{arith}
use mathlib.Core.Path.{◌≡◌, refl, sym, ap, ap₂, ◌∙◌}
use mathlib.Core.Bool.{Bool, true, false, ◌&&◌}
use mathlib.Core.List.{List, [], ◌∷◌}
use borrow.Author.Tests.{le-ltb}
use lib.Dec.{eqb}
use Rattle.std.specs.Prelude.{cond, Option, Some, None, Result, Ok, Err}
use Rattle.std.specs.Cmp.Lexicographic.{pointwise}
use Rattle.kind.specs.Limits.{most_terms}
use Rattle.laws.proofs.Cases.{clash, tested, false-not-true}
use Rattle.form2.specs.declared.cursor.Cursor2.{Cursor2}
use Rattle.form2.specs.declared.cursor.Step2.{Step2}
use Rattle.form2.specs.Cursor.{Stepped2}
use Rattle.comparing.specs.declared.pair.Line.TheVariants as line
use Rattle.comparing.specs.declared.pair.Pair.{Pair}
use Rattle.comparing.specs.declared.pair.Met.{Met}
use Rattle.comparing.specs.declared.sides.Side.TheVariants as side
use Rattle.comparing.specs.declared.sides.Sided.{Sided}
use Rattle.comparing.specs.Sides.{step_side, on_side}
use Rattle.laws.specs.Same.{same_numbers}
use Rattle.comparing.specs.inner.Behind.{behind_both, behind_as}
use Rattle.comparing.specs.Pairs.{number_after, same_held, same_line, Answered, met_by, position, turn_as, turn_of, over_same, met_from, next_of}
use Rattle.comparing.proofs.SidesLaws.{side-ok, side-err, step_falls}

-- ---- the same numbers

-- what `==` says of two rows
pub numbers-pointwise : (l r : List ℕ) → pointwise eqb l r ≡ same_numbers l r
unfolding same_numbers
numbers-pointwise [] [] = refl
numbers-pointwise [] (y ∷ r) = refl
numbers-pointwise (x ∷ l) [] = refl
numbers-pointwise (x ∷ l) (y ∷ r) = ap (λ (b : Bool). eqb x y && b) (numbers-pointwise l r)

-- ---- one position

pub number_more : (n : ℕ) → n ≤ most_terms → n + 1 ≡ number_after n
number_more n within = rw (le-ltb most_terms n within) refl

-- ---- a turn: a step of each side

pub turn_at : (p : Pair) (s t : List ℕ) (a b : Stepped2) → step_side p.left s ≡ a → step_side p.right t ≡ b → turn_of p s t ≡ turn_as a b p
unfolding turn_of
turn_at p s t a b one two = ap₂ (λ (x y : Stepped2). turn_as x y p) one two

side-is : (p : Pair) (s : List ℕ) (u : Result (Option Step2) Sided) (l : Option Step2) → u ≡ on_side side.Left (step_side p.left s) → u ≡ Ok l → step_side p.left s ≡ Ok l
side-is p s u l is ok = side-ok side.Left (step_side p.left s) l (sym is ∙ ok)

pub turn-refused-left : (p : Pair) (s t : List ℕ) (u : Result (Option Step2) Sided) (d : Sided) → u ≡ on_side side.Left (step_side p.left s) → u ≡ Err d → Err d ≡ turn_of p s t
turn-refused-left p s t u d is e =
    let f = side-err side.Left (step_side p.left s) d (sym is ∙ e) in
    ap (λ (d : Sided). Err d) f.2 ∙ sym (turn_at p s t (Err f.0) (step_side p.right t) f.1 refl)

pub turn-refused-right : (p : Pair) (s t : List ℕ) (u v : Result (Option Step2) Sided) (l : Option Step2) (d : Sided) → u ≡ on_side side.Left (step_side p.left s) → u ≡ Ok l → v ≡ on_side side.Right (step_side p.right t) → v ≡ Err d → Err d ≡ turn_of p s t
turn-refused-right p s t u v l d one ok two e =
    let f = side-err side.Right (step_side p.right t) d (sym two ∙ e) in
    ap (λ (d : Sided). Err d) f.2 ∙ sym (turn_at p s t (Ok l) (Err f.0) (side-is p s u l one ok) f.1)

pub turn_is : (p : Pair) (s t : List ℕ) (u v : Result (Option Step2) Sided) (l r : Option Step2) (m : Option Met) → u ≡ on_side side.Left (step_side p.left s) → u ≡ Ok l → v ≡ on_side side.Right (step_side p.right t) → v ≡ Ok r → m ≡ position l r p → Ok m ≡ turn_of p s t
turn_is p s t u v l r m one ok two also answer =
    ap (λ (m : Option Met). Ok m) answer
    ∙ sym (turn_at p s t (Ok l) (Ok r) (side-is p s u l one ok) (side-ok side.Right (step_side p.right t) r (sym two ∙ also)))

-- ---- over the same terms

-- what is the same is a term of both sides
same-terms : (a b : Stepped2) (p : Pair) (m : Met) → turn_as a b p ≡ Ok (Some m) → same_line m.line ≡ true → (l : Step2) × (a ≡ Ok (Some l)) × (m.next.left ≡ l.next)
same-terms (Err e) b p m is on = absurd (clash (cc))
same-terms (Ok a) (Err e) p m is on = absurd (clash (cc))
same-terms (Ok (Some l)) (Ok (Some r)) p m is on =
    let same : met_by p.number (line.Both l.term r.term) l.next r.next ≡ m = cc in
    (l, refl, ap (λ (m : Met). m.next.left) (sym same))
same-terms (Ok (Some l)) (Ok None) p m is on =
    let same : met_by p.number (line.Left l.term) l.next p.right ≡ m = cc in
    (l, refl, ap (λ (m : Met). m.next.left) (sym same))
same-terms (Ok None) (Ok (Some r)) p m is on =
    let same : met_by p.number (line.Right r.term) p.left r.next ≡ m = cc in
    false-not-true (ap (λ (m : Met). same_line m.line) same ∙ on)
same-terms (Ok None) (Ok None) p m is on = absurd (clash (cc))

-- what a turn that is the same leaves on the left
pub same-falls : (p : Pair) (s t : List ℕ) (m : Met) → turn_of p s t ≡ Ok (Some m) → same_line m.line ≡ true → (0 < p.left.cursor.left) × (m.next.left.cursor.left ≡ p.left.cursor.left - 1)
unfolding turn_of
same-falls p s t m is on =
    let both = same-terms (step_side p.left s) (step_side p.right t) p m is on in
    let f = step_falls p.left s both.0 both.1 in
    (f.0, ap (λ (c : Cursor2). c.cursor.left) both.2 ∙ f.1)

settled : (n : ℕ) (p : Pair) (s t : List ℕ) (x : Answered) → turn_of p s t ≡ x → ((rest : Pair → Answered) → over_same x rest ≡ x) → met_from n p s t ≡ x
unfolding met_from
settled zero p s t x is stays = is
settled (suc n) p s t x is stays = ap (λ (x : Answered). over_same x (λ q. met_from n q s t)) is ∙ stays (λ q. met_from n q s t)

over-one : (n : ℕ) (p : Pair) (s t : List ℕ) (m : Met) → turn_of p s t ≡ Ok (Some m) → same_line m.line ≡ true → met_from (suc n) p s t ≡ met_from n m.next s t
unfolding met_from
over-one n p s t m is on = ap (λ (x : Answered). over_same x (λ q. met_from n q s t)) is ∙ rw on

-- what a step meets: this position, or what the step behind it meets
module _ (p : Pair) (s t : List ℕ) where
  pub turn-next : (m : Met) → turn_of p s t ≡ Ok (Some m) → same_line m.line ≡ false → next_of p s t ≡ Ok (Some m)
  unfolding next_of
  turn-next m is off = settled p.left.cursor.left p s t (Ok (Some m)) is (λ rest. rw off)

  pub turn-end : turn_of p s t ≡ Ok None → next_of p s t ≡ Ok None
  unfolding next_of
  turn-end is = settled p.left.cursor.left p s t (Ok None) is (λ rest. refl)

  pub turn-refused : (d : Sided) → turn_of p s t ≡ Err d → next_of p s t ≡ Err d
  unfolding next_of
  turn-refused d is = settled p.left.cursor.left p s t (Err d) is (λ rest. refl)

  pub turn-over : (m : Met) → turn_of p s t ≡ Ok (Some m) → same_line m.line ≡ true → next_of p s t ≡ next_of m.next s t
  unfolding next_of
  turn-over m is on =
      let f = same-falls p s t m is on in
      let all : p.left.cursor.left ≡ suc m.next.left.cursor.left = omega (arith, f.0, f.1) in
      ap (λ (n : ℕ). met_from n p s t) all ∙ over-one m.next.left.cursor.left p s t m is on

-- ---- the loop: the step from here on is the step from the first turn

pub record Going (s t : List ℕ) (first p : Pair) : Type 0 where
  pub whole : next_of p s t ≡ next_of first s t

pub going-first : (s t : List ℕ) (p : Pair) → Going s t p p
going-first s t p = record { whole = refl }

-- ---- by what a turn answers: a position that is gone over, one that differs, the end, a refusal

pub going_less : (s t : List ℕ) (p : Pair) (x : Answered) (o : Option Met) (m : Met) (b : Bool) → x ≡ turn_of p s t → x ≡ Ok o → o ≡ Some m → b ≡ same_line m.line → b ≡ true → m.next.left.cursor.left < p.left.cursor.left
going_less s t p x o m b is ok some same on =
    let turn : turn_of p s t ≡ Ok (Some m) = sym is ∙ ok ∙ ap (λ (o : Option Met). Ok o) some in
    let f = same-falls p s t m turn (sym same ∙ on) in
    omega (arith, f.0, f.1)

module _ (s t : List ℕ) (first p : Pair) (x : Answered) (o : Option Met) where
  pub going_more : (m : Met) (b : Bool) → Going s t first p → x ≡ turn_of p s t → x ≡ Ok o → o ≡ Some m → b ≡ same_line m.line → b ≡ true → Going s t first m.next
  going_more m b g is ok some same on =
      let turn : turn_of p s t ≡ Ok (Some m) = sym is ∙ ok ∙ ap (λ (o : Option Met). Ok o) some in
      record { whole = sym (turn-over p s t m turn (sym same ∙ on)) ∙ g.whole }

  pub going_met : (m : Met) (b : Bool) → Going s t first p → x ≡ turn_of p s t → x ≡ Ok o → o ≡ Some m → b ≡ same_line m.line → b ≡ false → Ok (Some m) ≡ next_of first s t
  going_met m b g is ok some same off =
      let turn : turn_of p s t ≡ Ok (Some m) = sym is ∙ ok ∙ ap (λ (o : Option Met). Ok o) some in
      sym (turn-next p s t m turn (sym same ∙ off)) ∙ g.whole

  pub going_end : Going s t first p → x ≡ turn_of p s t → x ≡ Ok o → o ≡ None → Ok None ≡ next_of first s t
  going_end g is ok none =
      let turn : turn_of p s t ≡ Ok None = sym is ∙ ok ∙ ap (λ (o : Option Met). Ok o) none in
      sym (turn-end p s t turn) ∙ g.whole

pub going-refused : (s t : List ℕ) (first p : Pair) (x : Answered) (d : Sided) → Going s t first p → x ≡ turn_of p s t → x ≡ Err d → Err d ≡ next_of first s t
going-refused s t first p x d g is e = sym (turn-refused p s t d (sym is ∙ e)) ∙ g.whole

-- ---- by what each side's step answers: a position that is gone over, one that is told, a refusal

over-terms : (p q : Pair) (l r : Step2) → behind_as p.number (Some l) (Some r) ≡ Some q → same_held l.term r.term ≡ true
over-terms p q l r is =
    tested (same_held l.term r.term)
    (λ on. on)
    (λ off.
    let none : None ≡ Some q = ap (λ (b : Bool). cond b (Some (behind_both p.number l r)) None) (sym off) ∙ is in
    absurd (clash (cc)))

told-terms : (p : Pair) (l r : Step2) → behind_as p.number (Some l) (Some r) ≡ None → same_held l.term r.term ≡ false
told-terms p l r is =
    tested (same_held l.term r.term)
    (λ on.
    let some : Some (behind_both p.number l r) ≡ None = ap (λ (b : Bool). cond b (Some (behind_both p.number l r)) None) (sym on) ∙ is in
    absurd (clash (cc)))
    (λ off. off)

-- what is gone over is a position with the same term on both sides
behind-some : (p q : Pair) (l r : Option Step2) → behind_as p.number l r ≡ Some q → (m : Met) × (position l r p ≡ Some m) × (same_line m.line ≡ true) × (m.next ≡ q)
behind-some p q (Some l) (Some r) is =
    let on = over-terms p q l r is in
    let some : Some (behind_both p.number l r) ≡ Some q = ap (λ (b : Bool). cond b (Some (behind_both p.number l r)) None) (sym on) ∙ is in
    let made : behind_both p.number l r ≡ q = cc in
    (met_by p.number (line.Both l.term r.term) l.next r.next, refl, on, made)
behind-some p q (Some l) None is = absurd (clash (cc))
behind-some p q None r is = absurd (clash (cc))

module _ (s t : List ℕ) (first p : Pair) (u v : Result (Option Step2) Sided) (l r : Option Step2) (one : u ≡ on_side side.Left (step_side p.left s)) (ok : u ≡ Ok l) (two : v ≡ on_side side.Right (step_side p.right t)) (also : v ≡ Ok r) where
  turned : Ok (position l r p) ≡ turn_of p s t
  turned = turn_is p s t u v l r (position l r p) one ok two also refl

  met-over : (q : Pair) → behind_as p.number l r ≡ Some q → (m : Met) × (turn_of p s t ≡ Ok (Some m)) × (same_line m.line ≡ true) × (m.next ≡ q)
  met-over q is =
      let f = behind-some p q l r is in
      (f.0, sym turned ∙ ap (λ (o : Option Met). Ok o) f.1, f.2, f.3)

  pub over_less : (o : Option Pair) (q : Pair) → o ≡ behind_as p.number l r → o ≡ Some q → q.left.cursor.left < p.left.cursor.left
  over_less o q is some =
      let f = met-over q (sym is ∙ some) in
      let less = going_less s t p (turn_of p s t) (Some f.0) f.0 true refl f.1 refl (sym f.2) refl in
      let left : f.0.next.left.cursor.left ≡ q.left.cursor.left = ap (λ (q : Pair). q.left.cursor.left) f.3 in
      omega (arith, less, left)

  pub over_more : (o : Option Pair) (q : Pair) → Going s t first p → o ≡ behind_as p.number l r → o ≡ Some q → Going s t first q
  over_more o q g is some =
      let f = met-over q (sym is ∙ some) in
      let more = going_more s t first p (turn_of p s t) (Some f.0) f.0 true g refl f.1 refl (sym f.2) refl in
      record { whole = ap (λ (q : Pair). next_of q s t) (sym f.3) ∙ more.whole }

-- the position that is told: one that differs, or none
told-met : (p : Pair) (s t : List ℕ) (m : Met) → turn_of p s t ≡ Ok (Some m) → same_line m.line ≡ false → Ok (Some m) ≡ next_of p s t
told-met p s t m turn off = going_met s t p p (turn_of p s t) (Some m) m (same_line m.line) (going-first s t p) refl turn refl refl off

told-next : (p : Pair) (s t : List ℕ) (l r : Option Step2) → Ok (position l r p) ≡ turn_of p s t → behind_as p.number l r ≡ None → Ok (position l r p) ≡ next_of p s t
told-next p s t (Some l) (Some r) turn is = told-met p s t (met_by p.number (line.Both l.term r.term) l.next r.next) (sym turn) (told-terms p l r is)
told-next p s t (Some l) None turn is = told-met p s t (met_by p.number (line.Left l.term) l.next p.right) (sym turn) refl
told-next p s t None (Some r) turn is = told-met p s t (met_by p.number (line.Right r.term) p.left r.next) (sym turn) refl
told-next p s t None None turn is = going_end s t p p (turn_of p s t) None (going-first s t p) refl (sym turn) refl

pub going_told : (s t : List ℕ) (first p : Pair) (u v : Result (Option Step2) Sided) (l r : Option Step2) → Going s t first p → u ≡ on_side side.Left (step_side p.left s) → u ≡ Ok l → v ≡ on_side side.Right (step_side p.right t) → v ≡ Ok r → (o : Option Pair) → o ≡ behind_as p.number l r → o ≡ None → (x : Option Met) → x ≡ position l r p → Ok x ≡ next_of first s t
going_told s t first p u v l r g one ok two also o is none x told =
    ap (λ (x : Option Met). Ok x) told
    ∙ told-next p s t l r (turn_is p s t u v l r (position l r p) one ok two also refl) (sym is ∙ none)
    ∙ g.whole

pub going-refused-left : (s t : List ℕ) (first p : Pair) (u : Result (Option Step2) Sided) (d : Sided) → Going s t first p → u ≡ on_side side.Left (step_side p.left s) → u ≡ Err d → Err d ≡ next_of first s t
going-refused-left s t first p u d g one e = going-refused s t first p (turn_of p s t) d g refl (sym (turn-refused-left p s t u d one e))

pub going-refused-right : (s t : List ℕ) (first p : Pair) (u v : Result (Option Step2) Sided) (l : Option Step2) (d : Sided) → Going s t first p → u ≡ on_side side.Left (step_side p.left s) → u ≡ Ok l → v ≡ on_side side.Right (step_side p.right t) → v ≡ Err d → Err d ≡ next_of first s t
going-refused-right s t first p u v l d g one ok two e = going-refused s t first p (turn_of p s t) d g refl (sym (turn-refused-right p s t u v l d one ok two e))
