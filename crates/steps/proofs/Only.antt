-- One answer alone meets each public contract of this crate, and it is the definition's.
use Prim.Native.Nat.{ℕ}
use Rattle.kind.specs.declared.Kind.{Kind}
use Rattle.laws.proofs.Contract.{Alone, alone, ◌▸◌, end}
use Rattle.steps.specs.declared.CentreName.{CentreName}
use Rattle.steps.specs.declared.Axis.{Axis}
use Rattle.steps.specs.Choice.{chosen, first_axis}
use Rattle.steps.specs.inner.Packed.{orders, move_in, multiplier_word}
use Rattle.steps.specs.Steps.{branches}
use Rattle.steps.proofs.choice.find_fun_to_lower.Reads.{Post as FindFunToLower}
use Rattle.steps.proofs.choice.find_component_to_lower.Reads.{Post as FindComponentToLower}
use Rattle.steps.proofs.branches.multipliers.Reads.{Post as Multipliers}
use Rattle.steps.proofs.branches.branch.Reads.{Post as Branch}

pub find-fun-to-lower-only : (k : Kind) (w : ℕ) → let g = k ▸ w ▸ end in Alone (λ r. FindFunToLower tt g r g) (chosen k (orders w))
find-fun-to-lower-only k w = alone (λ r p. p)

pub find-component-to-lower-only : (w : ℕ) (c : CentreName) → let g = w ▸ c ▸ end in Alone (λ r. FindComponentToLower tt g r g) (first_axis (orders w) c)
find-component-to-lower-only w c = alone (λ r p. p)

pub multipliers-only : (k : Kind) (w : ℕ) (c : CentreName) (x : Axis) →
    let g = k ▸ w ▸ c ▸ x ▸ end in Alone (λ r. Multipliers tt g r g) (multiplier_word c x (orders w) (branches k c x))
multipliers-only k w c x = alone (λ r p. p)

pub branch-only : (k : Kind) (c : CentreName) (x : Axis) (n : ℕ) → let g = k ▸ c ▸ x ▸ n ▸ end in Alone (λ r. Branch tt g r g) (move_in k c x (branches k c x) n)
branch-only k c x n = alone (λ r p. p)
