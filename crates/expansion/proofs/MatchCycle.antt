-- What each call of the walk that compares asks and gives, a law for each. The terms and the number that falls are those of the walk that writes.
use Prim.Native.Nat.{ℕ, ◌+◌, ◌/◌, ◌%◌, ◌<◌}
use mathlib.Core.Path.{◌≡◌, sym, subst}
use mathlib.Core.List.{List, [], ◌∷◌, ◌++◌}
use native.Mathlib.Omega.{arith}
use lib.ListN.{get_or}
use Rattle.kind.specs.declared.Kind.{Kind}
use Rattle.term.specs.Terms.{Term}
use Rattle.steps.specs.declared.CentreName.{CentreName}
use Rattle.steps.specs.declared.Axis.{Axis}
use Rattle.steps.specs.Steps.{branches}
use Rattle.steps.specs.inner.Packed.{orders, multiplier_word}
use Rattle.expansion.specs.declared.Path.{Path}
use Rattle.expansion.specs.declared.Child.{Child}
use Rattle.expansion.specs.declared.Lowered.{Lowered}
use Rattle.expansion.specs.inner.View.{path_term}
use Rattle.expansion.specs.inner.Walking.{ChildOf, lowering, terms_below, terms_from}
use Rattle.expansion.specs.inner.Matching.{Match, match_of, Matched, TermApt, NodeApt, BranchApt}
use Rattle.expansion.proofs.WalkTurns.{from-none, from-skip, from-legal, turn-next, below-eight}
use Rattle.expansion.proofs.WalkCycle.{node_fuel, below_fuel, branch_fuel, good-words, below-done, below_none, below-first, first-turn}
use Rattle.expansion.proofs.MatchLaws.{matched-none, matched-ended, matched-both}
use Rattle.std.specs.Prelude.{Option, Some, None}

module _ (s : List ℕ) (k : Kind) (left : ℕ) (p : Path) (c : CentreName) (x : Axis) (times number : ℕ) (m : Match) (may : BranchApt s k left p c x times number m) where
  pub match_none : times ≡ 0 → Matched s m (terms_from k left p c x number) m
  match_none e = matched-none s m (terms_from k left p c x number) may.apt (from-none k left c x times number may.turn p e)

  module _ (some : times ≡ 0 → ⊥) where
    pub match-number : number + 1 < 256
    match-number = let h = below-eight k left c x times number may.turn some in omega arith

    pub match-skip-falls : (t : ℕ) → branch_fuel k left p number ≡ t → branch_fuel k left p (number + 1) < t
    unfolding branch_fuel
    match-skip-falls t e = let h = below-eight k left c x times number may.turn some in omega arith

    pub match-skip : times % 16 ≡ 0 → BranchApt s k left p c x (times / 16) (number + 1) m
    match-skip e = record { good = may.good; turn = turn-next k left c x times number may.turn some; apt = may.apt }

    pub match-skipped : (r : Match) → times % 16 ≡ 0 → Matched s m (terms_from k left p c x (number + 1)) r → Matched s m (terms_from k left p c x number) r
    match-skipped r e h = subst (λ (ts : List Term). Matched s m ts r) (from-skip k left c x times number may.turn some p e) h

  module _ (child : Child) (legal : times % 16 ≡ 0 → ⊥) (of : ChildOf k left p c x number child) where
    some-times : times ≡ 0 → ⊥
    some-times e = legal (omega arith)

    split : terms_from k left p c x number ≡ terms_below child.kind child.left child.path ++ terms_from k left p c x (number + 1)
    split = from-legal k left c x times number may.turn some-times p child legal of

    pub match-child-falls : (t : ℕ) → branch_fuel k left p number ≡ t → below_fuel child < t
    unfolding branch_fuel below_fuel
    match-child-falls t e = let h = below-eight k left c x times number may.turn some-times in let d = of.down in omega arith

    pub match-child : NodeApt s child.kind child.left child.path m
    match-child = record { good = of.good; apt = may.apt }

    module _ (mid : Match) (first : Matched s m (terms_below child.kind child.left child.path) mid) where
      pub match-then : BranchApt s k left p c x (times / 16) (number + 1) mid
      match-then = record { good = may.good; turn = turn-next k left c x times number may.turn some-times; apt = first.apt }

      pub match-done : (r : Match) → Matched s mid (terms_from k left p c x (number + 1)) r → Matched s m (terms_from k left p c x number) r
      match-done r h = matched-both s m (terms_from k left p c x number) (terms_below child.kind child.left child.path) (terms_from k left p c x (number + 1)) split mid first r h

      pub match-last : times / 16 ≡ 0 → Matched s m (terms_from k left p c x number) mid
      match-last e = match-done mid (matched-none s mid (terms_from k left p c x (number + 1)) first.apt (from-none k left c x (times / 16) (number + 1) match-then.turn p e))

    pub match-end : (words : List ℕ) → Matched s m (terms_below child.kind child.left child.path) (match_of words) → (get_or words 2 0 ≡ 0 → ⊥) → Matched s m (terms_from k left p c x number) (match_of words)
    unfolding match_of
    match-end words first ended = match-done (match_of words) first (match_of words) (matched-ended s (match_of words) (terms_from k left p c x (number + 1)) first.apt ended)

module _ (s : List ℕ) (k : Kind) (left : ℕ) (p : Path) (m : Match) (may : NodeApt s k left p m) where
  pub node-term : left ≡ 0 → TermApt s p m
  node-term e = let w = good-words k left p may.good in record { scale = w.scale-fits; boys = w.boys-fits; count = w.count_fits; apt = may.apt }

  pub node-matched : (r : Match) → left ≡ 0 → Matched s m (path_term p ∷ []) r → Matched s m (terms_below k left p) r
  node-matched r e h = subst (λ (ts : List Term). Matched s m ts r) (sym (below-done k left p e)) h

  pub match-first-falls : (t : ℕ) → node_fuel k left p ≡ t → branch_fuel k left p 0 < t
  unfolding node_fuel branch_fuel
  match-first-falls t e = omega arith

  module _ (some : left ≡ 0 → ⊥) (r : Option Lowered) (is : r ≡ lowering k (orders left)) where
    pub match-nothing : r ≡ None → Matched s m (terms_below k left p) m
    match-nothing e = matched-none s m (terms_below k left p) may.apt (below_none k left p may.good.word some r is e)

    module _ (c : CentreName) (x : Axis) (at-them : r ≡ Some (record { centre = c; axis = x })) where
      pub match-first : (times : ℕ) → times ≡ multiplier_word c x (orders left) (branches k c x) → BranchApt s k left p c x times 0 m
      match-first times e = record { good = may.good; turn = first-turn k left p may.good.word some r is c x at-them times e; apt = may.apt }

      pub match-first-done : (end : Match) → Matched s m (terms_from k left p c x 0) end → Matched s m (terms_below k left p) end
      match-first-done end h = subst (λ (ts : List Term). Matched s m ts end) (sym (below-first k left p may.good.word some r is c x at-them)) h
