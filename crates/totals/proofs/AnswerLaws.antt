-- The answers of `scale_total`, a law for each, in the order of the refusals.
use Prim.Native.Nat.{ℕ}
use mathlib.Core.Path.{◌≡◌, refl, sym, ap, ◌∙◌}
use mathlib.Core.Logic.{◌⊎◌, inl, inr}
use mathlib.Core.Bool.{Bool, true, false}
use mathlib.Core.List.{List}
use lib.ListN.{length}
use Rattle.kind.specs.declared.Kind.{Kind}
use Rattle.kind.specs.declared.Kind.TheVariants.{Overlap, Nuclear, Moment}
use Rattle.kind.specs.Limits.{request_orders}
use Rattle.expansion.specs.Expanding.{too_high, unused_set}
use Rattle.expansion.specs.inner.Requests.{RequestWithin}
use Rattle.totals.specs.Totals.{claimed, scale_total, claimed_total, kind_total}
use Rattle.std.specs.Prelude.{Option, Some, Ok, Err}
use Rattle.kind.specs.declared.refusals.Refusal.TheVariants.{OrderSum, UnusedOrder}

pub claimed-is : (k : Kind) (orders : List ℕ) (v : ℕ) → v ≡ scale_total k orders → (k ≡ Overlap) ⊎ ((k ≡ Nuclear) ⊎ (k ≡ Moment)) → Some v ≡ claimed_total k orders
claimed-is k orders v e one = rw (e, by one) refl
  where
    by : (k ≡ Overlap) ⊎ ((k ≡ Nuclear) ⊎ (k ≡ Moment)) → claimed k ≡ true
    by (inl is) = ap claimed is
    by (inr (inl is)) = ap claimed is
    by (inr (inr is)) = ap claimed is

module _ (k : Kind) (orders : List ℕ) where
  pub total-high : (b : Bool) → b ≡ too_high k orders → b ≡ true → Err OrderSum ≡ kind_total k orders
  unfolding kind_total
  total-high b e t = simp (sym e ∙ t)

  pub total-unused : (a b : Bool) → a ≡ too_high k orders → a ≡ false → b ≡ unused_set k orders → b ≡ true → Err UnusedOrder ≡ kind_total k orders
  unfolding kind_total
  total-unused a b e f g t = simp (sym e ∙ f, sym g ∙ t)

  pub within-may : (a b : Bool) → a ≡ too_high k orders → a ≡ false → b ≡ unused_set k orders → b ≡ false → length orders ≡ request_orders → RequestWithin k orders
  within-may a b e f g h t = record { low_sums = sym e ∙ f; none-unused = sym g ∙ h; in-full = t }

  pub total-known : (a b : Bool) (t : Option ℕ) → a ≡ too_high k orders → a ≡ false → b ≡ unused_set k orders → b ≡ false → t ≡ claimed_total k orders → Ok t ≡ kind_total k orders
  unfolding kind_total
  total-known a b t e f g h p = ap (λ (t : Option ℕ). Ok t) p ∙ simp (sym e ∙ f, sym g ∙ h)
