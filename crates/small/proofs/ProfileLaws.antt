-- The test of a centre.
use Prim.Native.Nat.{ℕ}
use mathlib.Core.Path.{◌≡◌, ap}
use mathlib.Core.List.{List}
use lib.Dec.{leb}
use Rattle.steps.specs.declared.CentreName.{CentreName}
use Rattle.steps.specs.Choice.{sum_of}
use Rattle.small.specs.Profile.{most_small, at_most}

pub sum-at-most : (orders : List ℕ) (c : CentreName) (v : ℕ) → v ≡ sum_of orders c → leb v most_small ≡ at_most orders c
sum-at-most orders c v e = ap (λ (n : ℕ). leb n most_small) e
