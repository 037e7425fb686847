-- The terms from a branch number on: none where no multiplier is left, those of the next number, or a child's and then those.
use Prim.Native.Nat.{ℕ, zero, suc, ◌+◌, ◌*◌, ◌/◌, ◌%◌, ◌≤◌, ◌<◌}
use mathlib.Core.Path.{◌≡◌, refl, sym, ap, ◌∙◌}
use mathlib.Core.List.{List, [], ◌∷◌, ◌++◌, append_assoc}
use native.Mathlib.Omega.{arith}
use native.Mathlib.Numerals.{add-one}
use native.Mathlib.Decide.{dec_lt}
use lib.ListN.{length, get_or, drop, drop_of_length-le}
use lib.Seq.{drop-cons}
use Rattle.kind.specs.declared.Kind.{Kind}
use Rattle.kind.specs.declared.Kind.TheVariants.{Overlap, Kinetic, Nuclear, Moment, Coulomb}
use Rattle.term.specs.Terms.{Term}
use Rattle.steps.specs.declared.CentreName.{CentreName}
use Rattle.steps.specs.declared.CentreName.TheVariants.{A, B, C, D}
use Rattle.steps.specs.declared.Axis.{Axis}
use Rattle.steps.specs.Steps.{Branch, branches, times}
use Rattle.steps.specs.States.{State, Next, step, if_legal, turns}
use Rattle.steps.specs.inner.Packed.{orders, multiplier_word, no_branch}
use Rattle.steps.proofs.Falling.{times-small}
use Rattle.histories.specs.History.{in_turn, expand}
use Rattle.roll.specs.Bytes.{term_bytes, terms_bytes}
use Rattle.expansion.specs.declared.Path.{Path}
use Rattle.expansion.specs.declared.Child.{Child}
use Rattle.expansion.specs.inner.Walking.{view_of, TurnMay, ChildOf, terms_below, terms_from}

few-branches : (k : Kind) (c : CentreName) (x : Axis) → length (branches k c x) ≤ 8
unfolding branches
few-branches Overlap c x = omega arith
few-branches Kinetic c x = omega arith
few-branches Nuclear c x = omega arith
few-branches Moment A x = omega arith
few-branches Moment B x = omega arith
few-branches Moment C x = omega arith
few-branches Moment D x = omega arith
few-branches Coulomb c x = omega arith

no-turns : (c : CentreName) (x : Axis) (k : ℕ) (s : State) (bs : List Branch) → multiplier_word c x s.left bs ≡ 0 → turns c x k s bs ≡ []
unfolding multiplier_word turns
no-turns c x k s [] e = refl
no-turns c x k s (b ∷ bs) e =
    ap (λ (v : ℕ). if_legal v (record { number = k; state = step s c x b }) (turns c x (suc k) s bs)) none ∙ no-turns c x (suc k) s bs rest
  where
    none : times b.falls c x s.left ≡ 0
    none = omega arith

    rest : multiplier_word c x s.left bs ≡ 0
    rest = omega arith

module _ (k : Kind) (left : ℕ) (c : CentreName) (x : Axis) (times' number : ℕ) (turn : TurnMay k left c x times' number) where
  pub from-none : (p : Path) → times' ≡ 0 → terms_from k left p c x number ≡ []
  unfolding terms_from in_turn
  from-none p e = ap (in_turn (λ (n : Next). expand n.state)) (no-turns c x number (view_of k left p) (drop number (branches k c x)) (sym turn.is ∙ e))

  -- the branch of this number
  abbrev this : Branch
  this = get_or (branches k c x) number no_branch

  module _ (some : times' ≡ 0 → ⊥) where
    pub inside : number < length (branches k c x)
    unfolding multiplier_word
    inside = at (dec_lt number (length (branches k c x)))
      where
        at : Dec (number < length (branches k c x)) → number < length (branches k c x)
        at (yes h) = h
        at (no h) =
            absurd (some (turn.is ∙ ap (multiplier_word c x (orders left)) (drop_of_length-le (branches k c x) {i = number} (omega arith))))

    here : drop number (branches k c x) ≡ this ∷ drop (number + 1) (branches k c x)
    here = drop-cons (branches k c x) number no_branch inside ∙ ap (λ (n : ℕ). this ∷ drop n (branches k c x)) (sym (add-one number))

    pub below-eight : number < 8
    below-eight = let h = inside in let l = few-branches k c x in omega arith

    word-here : times' ≡ times this.falls c x (orders left) + 16 * multiplier_word c x (orders left) (drop (number + 1) (branches k c x))
    unfolding multiplier_word
    word-here = turn.is ∙ ap (multiplier_word c x (orders left)) here

    pub multiplier-here : times' % 16 ≡ times this.falls c x (orders left)
    multiplier-here = let h = word-here in let l = times-small this.falls c x left in omega arith

    word_next : times' / 16 ≡ multiplier_word c x (orders left) (drop (number + 1) (branches k c x))
    word_next = let h = word-here in let l = times-small this.falls c x left in omega arith

    pub turn-next : TurnMay k left c x (times' / 16) (number + 1)
    turn-next = record { own-centre = turn.own-centre; positive = turn.positive; few = let h = below-eight in omega arith; is = word_next }

    turns-here : (p : Path) → turns c x number (view_of k left p) (drop number (branches k c x)) ≡ if_legal (times this.falls c x (orders left)) (record { number = number; state = step (view_of k left p) c x this })
        (turns c x (number + 1) (view_of k left p) (drop (number + 1) (branches k c x)))
    unfolding turns
    turns-here p =
        ap (turns c x number (view_of k left p)) here
        ∙ ap (λ (n : ℕ). if_legal (times this.falls c x (orders left)) (record { number = number; state = step (view_of k left p) c x this }) (turns c x n (view_of k left p) (drop (number + 1) (branches k c x))))
        (sym (add-one number))

    pub from-skip : (p : Path) → times' % 16 ≡ 0 → terms_from k left p c x (number + 1) ≡ terms_from k left p c x number
    unfolding terms_from
    from-skip p e =
        sym (ap (in_turn (λ (n : Next). expand n.state))
        (turns-here p ∙ ap (λ (v : ℕ). if_legal v (record { number = number; state = step (view_of k left p) c x this }) (turns c x (number + 1) (view_of k left p) (drop (number + 1) (branches k c x)))) (sym multiplier-here ∙ e)))

    pub from-legal : (p : Path) (r : Child) → (times' % 16 ≡ 0 → ⊥) → ChildOf k left p c x number r → terms_from k left p c x number ≡ terms_below r.kind r.left r.path ++ terms_from k left p c x (number + 1)
    unfolding terms_from terms_below in_turn
    from-legal p r ne child =
        ap (in_turn (λ (n : Next). expand n.state)) (turns-here p ∙ taken (times this.falls c x (orders left)) (λ (e : times this.falls c x (orders left) ≡ 0). ne (multiplier-here ∙ e)))
        ∙ ap (λ (s : State). expand s ++ in_turn (λ (n : Next). expand n.state) (turns c x (number + 1) (view_of k left p) (drop (number + 1) (branches k c x)))) (sym child.is)
      where
        taken : (v : ℕ) → (v ≡ 0 → ⊥) → if_legal v (record { number = number; state = step (view_of k left p) c x this }) (turns c x (number + 1) (view_of k left p) (drop (number + 1) (branches k c x)))
            ≡ record { number = number; state = step (view_of k left p) c x this } ∷ turns c x (number + 1) (view_of k left p) (drop (number + 1) (branches k c x))
        taken zero h = absurd (h refl)
        taken (suc v) h = refl

-- bytes of terms one after the other

pub terms-append : (xs ys : List Term) → terms_bytes (xs ++ ys) ≡ terms_bytes xs ++ terms_bytes ys
unfolding terms_bytes
terms-append [] ys = refl
terms-append (t ∷ xs) ys = ap (λ (l : List ℕ). term_bytes t ++ l) (terms-append xs ys) ∙ sym (append_assoc (term_bytes t) (terms_bytes xs) (terms_bytes ys))
