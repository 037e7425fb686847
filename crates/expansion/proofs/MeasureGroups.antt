-- What measuring asks and gives, a law for each call. What is told holds of every path of one scale and one count, so branches that
-- differ in the Boys order alone measure the same.
use Prim.Native.Nat.{ℕ, zero, suc, ◌+◌, ◌*◌, ◌-◌, ◌/◌, ◌%◌, ◌^◌, ◌<◌}
use mathlib.Core.Path.{◌≡◌, refl, sym, ap, ap₂, subst, subst₂, ◌∙◌}
use mathlib.Core.Bool.{Bool, true, false, cond}
use mathlib.Core.List.{List, ◌++◌, append_assoc}
use native.Mathlib.Omega.{arith}
use native.Mathlib.Numerals.{add-one}
use borrow.Author.Tests.{eqb-true, eqb-false}
use lib.Dec.{eqb}
use lib.ListN.{length, get_or, drop}
use lib.Seq.{drop-cons}
use Rattle.kind.specs.declared.Kind.{Kind}
use Rattle.kind.specs.declared.Kind.TheVariants.{Overlap, Kinetic, Nuclear, Moment, Coulomb}
use Rattle.term.specs.Terms.{Term}
use Rattle.steps.specs.declared.CentreName.{CentreName}
use Rattle.steps.specs.declared.Axis.{Axis}
use Rattle.steps.specs.declared.Move.{Move}
use Rattle.steps.specs.Steps.{Falls, Branch, branches, times}
use Rattle.steps.specs.inner.Packed.{orders, move_in, fall_word, no_branch, multiplier_word}
use Rattle.expansion.specs.declared.Path.{Path}
use Rattle.expansion.specs.declared.Child.{Child}
use Rattle.expansion.specs.inner.Measuring.{Measured}
use Rattle.expansion.specs.inner.View.{path_term, moved_on, MoveMay}
use Rattle.expansion.specs.inner.Walking.{Good, TurnMay, ChildOf, terms_below, terms_from}
use Rattle.expansion.specs.inner.Measuring.{measured, plus, in_pairs, width_of, group_of, skip_of, Measures}
use Rattle.expansion.proofs.TermsWords.{pushed-over, pushed-on}
use Rattle.expansion.proofs.WalkChildren.{child-moves, child-of}
use Rattle.expansion.proofs.WalkTurns.{from-skip, from-legal, turn-next, multiplier-here}
use Rattle.expansion.proofs.MeasureSizes.{measured-append}

-- a path one step further on, by whether its first word is full
abbrev pub next_by : Bool → Path → ℕ → ℕ → ℕ → Path
next_by true p t r v = record { scale = p.scale * t; boys = p.boys + r; count = 13; low = v; high = p.low }
next_by false p t r v = record { scale = p.scale * t; boys = p.boys + r; count = p.count + 1; low = p.low % 2 ^ 55 * 32 + v; high = p.high }

unfoldable pub next_path : Path → ℕ → ℕ → ℕ → Path
next_path p t r v = next_by (eqb p.count 12) p t r v

module _ (p : Path) (t r v : ℕ) where
  pub next-scale : (next_path p t r v).scale ≡ p.scale * t
  unfolding next_path
  next-scale = at (eqb p.count 12)
    where
      at : (w : Bool) → (next_by w p t r v).scale ≡ p.scale * t
      at true = refl
      at false = refl

  pub next-count : (next_path p t r v).count ≡ p.count + 1
  unfolding next_path
  next-count = at (eqb p.count 12) refl
    where
      at : (w : Bool) → eqb p.count 12 ≡ w → (next_by w p t r v).count ≡ p.count + 1
      at true e = let h = eqb-true p.count 12 e in omega arith
      at false e = refl

  next-term : MoveMay p t r v → path_term (next_path p t r v) ≡ moved_on (path_term p) t r v
  unfolding next_path
  next-term m = at (eqb p.count 12) refl
    where
      at : (w : Bool) → eqb p.count 12 ≡ w → path_term (next_by w p t r v) ≡ moved_on (path_term p) t r v
      at true e = pushed-over (record { scale = p.scale * t; boys = p.boys + r; count = p.count; low = p.low; high = p.high }) v (eqb-true p.count 12 e) m.adds-small
      at false e = pushed-on (record { scale = p.scale * t; boys = p.boys + r; count = p.count; low = p.low; high = p.high }) v (eqb-false p.count 12 e) m.count m.adds-small

pair-or-one : (n : ℕ) → (in_pairs n ≡ 2 → ⊥) → in_pairs n ≡ 1
pair-or-one zero g = absurd (g refl)
pair-or-one (suc zero) g = refl
pair-or-one (suc (suc zero)) g = absurd (g refl)
pair-or-one (suc (suc (suc zero))) g = refl
pair-or-one (suc (suc (suc (suc zero)))) g = absurd (g refl)
pair-or-one (suc (suc (suc (suc (suc n))))) g = refl

pub width_one : (k : Kind) (n : ℕ) → (width_of k n ≡ 2 → ⊥) → width_of k n ≡ 1
unfolding width_of
width_one Overlap n h = refl
width_one Kinetic n h = refl
width_one Nuclear n h = pair-or-one n h
width_one Moment n h = refl
width_one Coulomb n h = pair-or-one n h

-- the branches of a group fall alike and go on alike
pub record Alike (b d : Branch) : Type 0 where
  pub falls-alike : d.falls ≡ b.falls
  pub goes-alike : d.as-overlap ≡ b.as-overlap

one-is-not-two : ◌≡◌ {A = ℕ} 1 2 → ⊥
one-is-not-two e = omega arith

alike_next : (k : Kind) (c : CentreName) (x : Axis) (n : ℕ) → width_of k n ≡ 2 → Alike (get_or (branches k c x) n no_branch) (get_or (branches k c x) (suc n) no_branch)
unfolding width_of branches
alike_next Overlap c x n e = absurd (one-is-not-two e)
alike_next Kinetic c x n e = absurd (one-is-not-two e)
alike_next Nuclear c x zero e = record { falls-alike = refl; goes-alike = refl }
alike_next Nuclear c x (suc zero) e = absurd (one-is-not-two e)
alike_next Nuclear c x (suc (suc zero)) e = record { falls-alike = refl; goes-alike = refl }
alike_next Nuclear c x (suc (suc (suc zero))) e = absurd (one-is-not-two e)
alike_next Nuclear c x (suc (suc (suc (suc zero)))) e = record { falls-alike = refl; goes-alike = refl }
alike_next Nuclear c x (suc (suc (suc (suc (suc n))))) e = absurd (one-is-not-two e)
alike_next Moment c x n e = absurd (one-is-not-two e)
alike_next Coulomb c x zero e = record { falls-alike = refl; goes-alike = refl }
alike_next Coulomb c x (suc zero) e = absurd (one-is-not-two e)
alike_next Coulomb c x (suc (suc zero)) e = record { falls-alike = refl; goes-alike = refl }
alike_next Coulomb c x (suc (suc (suc zero))) e = absurd (one-is-not-two e)
alike_next Coulomb c x (suc (suc (suc (suc zero)))) e = record { falls-alike = refl; goes-alike = refl }
alike_next Coulomb c x (suc (suc (suc (suc (suc n))))) e = absurd (one-is-not-two e)

pair_inside : (k : Kind) (c : CentreName) (x : Axis) (n : ℕ) → width_of k n ≡ 2 → suc n < length (branches k c x)
unfolding width_of branches
pair_inside Overlap c x n e = absurd (one-is-not-two e)
pair_inside Kinetic c x n e = absurd (one-is-not-two e)
pair_inside Nuclear c x zero e = omega arith
pair_inside Nuclear c x (suc zero) e = absurd (one-is-not-two e)
pair_inside Nuclear c x (suc (suc zero)) e = omega arith
pair_inside Nuclear c x (suc (suc (suc zero))) e = absurd (one-is-not-two e)
pair_inside Nuclear c x (suc (suc (suc (suc zero)))) e = omega arith
pair_inside Nuclear c x (suc (suc (suc (suc (suc n))))) e = absurd (one-is-not-two e)
pair_inside Moment c x n e = absurd (one-is-not-two e)
pair_inside Coulomb c x zero e = omega arith
pair_inside Coulomb c x (suc zero) e = absurd (one-is-not-two e)
pair_inside Coulomb c x (suc (suc zero)) e = omega arith
pair_inside Coulomb c x (suc (suc (suc zero))) e = absurd (one-is-not-two e)
pair_inside Coulomb c x (suc (suc (suc (suc zero)))) e = omega arith
pair_inside Coulomb c x (suc (suc (suc (suc (suc n))))) e = absurd (one-is-not-two e)

-- the child of a branch along its own path
module _ (k : Kind) (left : ℕ) (p : Path) (c : CentreName) (x : Axis) (times' number : ℕ) (good : Good k left p) (turn : TurnMay k left c x times' number) (legal : times' % 16 ≡ 0 → ⊥) where
  abbrev move : Move
  move = move_in k c x (branches k c x) number

  abbrev onward : Path
  onward = next_path p (times' % 16) move.raises move.adds

  abbrev next : Child
  next = record { kind = move.kind; left = left - move.falls; path = onward }

  pub next_of : ChildOf k left p c x number next
  next_of =
      child-of k left p c x times' number good turn legal move refl onward
      (next-term p (times' % 16) move.raises move.adds (child-moves k left p c x times' number good turn legal move refl))

  pub next-split : terms_from k left p c x number ≡ terms_below move.kind (left - move.falls) onward ++ terms_from k left p c x (number + 1)
  next-split = from-legal k left c x times' number turn (λ (e : times' ≡ 0). legal (omega arith)) p next legal next_of

-- the branches of a group: their multipliers, and where they lead
module _ (k : Kind) (left : ℕ) (c : CentreName) (x : Axis) (times' number : ℕ) (turn : TurnMay k left c x times' number) (some : times' ≡ 0 → ⊥) where
  abbrev this : Branch
  this = get_or (branches k c x) number no_branch

  abbrev that : Branch
  that = get_or (branches k c x) (number + 1) no_branch

  turn_on : TurnMay k left c x (times' / 16) (number + 1)
  turn_on = turn-next k left c x times' number turn some

  times-here : times' % 16 ≡ times this.falls c x (orders left)
  times-here = multiplier-here k left c x times' number turn some

  -- a group of two
  module _ (two : width_of k number ≡ 2) where
    alike : Alike this that
    alike = subst (λ (n : ℕ). Alike this (get_or (branches k c x) n no_branch)) (sym (add-one number)) (alike_next k c x number two)

    word-there : times' / 16 ≡ times that.falls c x (orders left) + 16 * multiplier_word c x (orders left) (drop (suc (number + 1)) (branches k c x))
    unfolding multiplier_word
    word-there =
        turn_on.is
        ∙ ap (multiplier_word c x (orders left))
        (drop-cons (branches k c x) (number + 1) no_branch (subst (λ (n : ℕ). n < length (branches k c x)) (sym (add-one number)) (pair_inside k c x number two)))

    same-times : times that.falls c x (orders left) ≡ times this.falls c x (orders left)
    same-times = ap (λ (f : Falls). times f c x (orders left)) alike.falls-alike

    some-there : times' / 16 ≡ 0 → ⊥
    some-there e = some (let h = word-there in let t = times-here in let s = same-times in omega arith)

    times-there : times' / 16 % 16 ≡ times' % 16
    times-there = multiplier-here k left c x (times' / 16) (number + 1) turn_on some-there ∙ same-times ∙ sym times-here

    same-falls : (move_in k c x (branches k c x) (number + 1)).falls ≡ (move_in k c x (branches k c x) number).falls
    unfolding move_in
    same-falls = ap (λ (f : Falls). fall_word f c x) alike.falls-alike

    same_kind : (move_in k c x (branches k c x) (number + 1)).kind ≡ (move_in k c x (branches k c x) number).kind
    unfolding move_in
    same_kind = ap (λ (v : Bool). cond v Overlap k) alike.goes-alike

  -- the multipliers after a group
  pub group-turn : TurnMay k left c x (skip_of (width_of k number) times') (number + width_of k number)
  group-turn = at (eqb (width_of k number) 2) refl
    where
      at : (v : Bool) → eqb (width_of k number) 2 ≡ v → TurnMay k left c x (cond v (times' / 256) (times' / 16)) (number + width_of k number)
      at true e =
          let w = eqb-true (width_of k number) 2 e in
          subst₂ (TurnMay k left c x) (omega arith) (omega arith) (turn-next k left c x (times' / 16) (number + 1) turn_on (some-there w))
      at false e =
          let w = width_one k number (eqb-false (width_of k number) 2 e) in
          subst (λ (n : ℕ). TurnMay k left c x (times' / 16) (number + n)) (sym w) turn_on

  -- none of a group is legal
  pub group-none : times' % 16 ≡ 0 → (p : Path) → terms_from k left p c x (number + width_of k number) ≡ terms_from k left p c x number
  group-none none p = at (eqb (width_of k number) 2) refl
    where
      first : terms_from k left p c x (number + 1) ≡ terms_from k left p c x number
      first = from-skip k left c x times' number turn some p none

      at : (v : Bool) → eqb (width_of k number) 2 ≡ v → terms_from k left p c x (number + width_of k number) ≡ terms_from k left p c x number
      at true e =
          let w = eqb-true (width_of k number) 2 e in
          ap (terms_from k left p c x) (omega arith) ∙ from-skip k left c x (times' / 16) (number + 1) turn_on (some-there w) p (times-there w ∙ none) ∙ first
      at false e = ap (λ (n : ℕ). terms_from k left p c x (number + n)) (width_one k number (eqb-false (width_of k number) 2 e)) ∙ first

-- what a measured child says of a group
module _ (k : Kind) (left scale count : ℕ) (c : CentreName) (x : Axis) (times' number : ℕ) (turn : TurnMay k left c x times' number) (some : times' ≡ 0 → ⊥) (legal : times' % 16 ≡ 0 → ⊥)
    (m : Move) (is : m ≡ move_in k c x (branches k c x) number) (first : Measured) (told : Measures m.kind (left - m.falls) (scale * (times' % 16)) (count + 1) first) where
  told_here : Measures (move_in k c x (branches k c x) number).kind (left - (move_in k c x (branches k c x) number).falls) (scale * (times' % 16)) (count + 1) first
  told_here = subst (λ (n : Move). Measures n.kind (left - n.falls) (scale * (times' % 16)) (count + 1) first) is told

  abbrev on : TurnMay k left c x (times' / 16) (number + 1)
  on = turn_on k left c x times' number turn some

  legal-there : width_of k number ≡ 2 → times' / 16 % 16 ≡ 0 → ⊥
  legal-there two e = legal (sym (times-there k left c x times' number turn some two) ∙ e)

  module _ (p : Path) (scale-is : p.scale ≡ scale) (count-is : p.count ≡ count) (good : Good k left p) where
    abbrev here : Child
    here = next k left p c x times' number good turn legal

    first-is : first ≡ measured (terms_below here.kind here.left here.path)
    first-is =
        told_here.is here.path (next-scale p (times' % 16) _ _ ∙ ap (λ (n : ℕ). n * (times' % 16)) scale-is) (next-count p (times' % 16) _ _ ∙ ap (λ (n : ℕ). n + 1) count-is)
        (next_of k left p c x times' number good turn legal).good

    one : measured (terms_from k left p c x number) ≡ plus first (measured (terms_from k left p c x (number + 1)))
    one =
        ap measured (next-split k left p c x times' number good turn legal)
        ∙ measured-append (terms_below here.kind here.left here.path) (terms_from k left p c x (number + 1))
        ∙ ap (λ (v : Measured). plus v (measured (terms_from k left p c x (number + 1)))) (sym first-is)

    module _ (two : width_of k number ≡ 2) where
      abbrev there : Child
      there = next k left p c x (times' / 16) (number + 1) good on (legal-there two)

      first-there : first ≡ measured (terms_below there.kind there.left there.path)
      first-there =
          (subst₂ (λ (j : Kind) (l : ℕ). Measures j l (scale * (times' % 16)) (count + 1) first) (sym (same_kind k left c x times' number turn some two)) (ap (λ (n : ℕ). left - n) (sym (same-falls k left c x times' number turn some two))) told_here).is there.path
          (next-scale p (times' / 16 % 16) _ _ ∙ ap₂ ◌*◌ scale-is (times-there k left c x times' number turn some two)) (next-count p (times' / 16 % 16) _ _ ∙ ap (λ (n : ℕ). n + 1) count-is)
          (next_of k left p c x (times' / 16) (number + 1) good on (legal-there two)).good

      both : measured (terms_from k left p c x number) ≡ plus (plus first first) (measured (terms_from k left p c x (number + 1 + 1)))
      both =
          ap measured
          (next-split k left p c x times' number good turn legal
          ∙ ap (λ (ts : List Term). terms_below here.kind here.left here.path ++ ts) (next-split k left p c x (times' / 16) (number + 1) good on (legal-there two))
          ∙ sym (append_assoc (terms_below here.kind here.left here.path) (terms_below there.kind there.left there.path) (terms_from k left p c x (number + 1 + 1))))
          ∙ measured-append (terms_below here.kind here.left here.path ++ terms_below there.kind there.left there.path) (terms_from k left p c x (number + 1 + 1))
          ∙ ap (λ (v : Measured). plus v (measured (terms_from k left p c x (number + 1 + 1))))
          (measured-append (terms_below here.kind here.left here.path) (terms_below there.kind there.left there.path) ∙ sym (ap₂ plus first-is first-there))

    -- a group and what comes after it
    pub group-split : measured (terms_from k left p c x number) ≡ plus (group_of (width_of k number) first) (measured (terms_from k left p c x (number + width_of k number)))
    group-split = at (eqb (width_of k number) 2) refl
      where
        at : (v : Bool) → eqb (width_of k number) 2 ≡ v → measured (terms_from k left p c x number) ≡ plus (cond v (plus first first) first) (measured (terms_from k left p c x (number + width_of k number)))
        at true e =
            let w = eqb-true (width_of k number) 2 e in
            both w ∙ ap (λ (n : ℕ). plus (plus first first) (measured (terms_from k left p c x n))) (omega arith)
        at false e =
            let w = width_one k number (eqb-false (width_of k number) 2 e) in
            one ∙ ap (λ (n : ℕ). plus first (measured (terms_from k left p c x (number + n)))) (sym w)
