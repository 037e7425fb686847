-- One order of a centre in a word, and none for a number that no branch has.
use Prim.Native.Nat.{ℕ, ◌*◌, ◌%◌, ◌^◌, ◌≤◌}
use mathlib.Core.Path.{◌≡◌, sym, ap, ◌∙◌, subst}
use native.Mathlib.Nat.{one-mul}
use native.Mathlib.Omega.{arith}
use lib.Pow.{pow_mono, shl_exact}
use lib.ListN.{get_or-eq_default}
use Rattle.kind.specs.declared.Kind.{Kind}
use Rattle.kind.specs.Kinds.{branches_of}
use Rattle.steps.specs.declared.CentreName.{CentreName}
use Rattle.steps.specs.declared.Axis.{Axis}
use Rattle.steps.specs.declared.Move.{Move}
use Rattle.steps.specs.Choice.{order_place}
use Rattle.steps.specs.Steps.{branches}
use Rattle.steps.specs.inner.Packed.{no_branch, moved, move_in, fall_word, unit}
use Rattle.steps.proofs.Packed.{sixteen-pow}
use Rattle.steps.proofs.Sizes.{branches-within}

module _ (k : ℕ) (c : CentreName) (x : Axis) (e : k ≡ 4 * order_place c x) (below : k ≤ 44) where
  shifted : 1 * 2 ^ k % 2 ^ 64 ≡ 2 ^ k
  shifted = shl_exact {a = 1} 1 k 64 (omega arith) (omega arith) ∙ one-mul (2 ^ k)

  pub unit-shifted : 1 * 2 ^ k % 2 ^ 64 ≡ unit c x
  unit-shifted = shifted ∙ ap (λ (m : ℕ). 2 ^ m) e ∙ sixteen-pow (order_place c x)

  pub unit-below : 1 * 2 ^ k % 2 ^ 64 ≤ 16 ^ 11
  unit-below = subst (λ (m : ℕ). m ≤ 16 ^ 11) (sym shifted) (pow_mono below)

-- a number that is not below the branches of a kind has no branch
pub no-branch : (k : Kind) (c : CentreName) (x : Axis) (b n : ℕ) (m : Move) → b ≡ branches_of k → b ≤ n → m ≡ record { falls = 0; adds = 0; raises = 0; kind = k } → m ≡ move_in k c x (branches k c x) n
unfolding move_in fall_word
no-branch k c x b n m e h f = let w = branches-within k c x in f ∙ sym (ap (moved k c x) (get_or-eq_default (branches k c x) no_branch (omega arith)))
