-- `product` meets its contract: what is left of the prefactors gives the whole product. Assumes nothing.
use mathlib.Core.Path.{◌≡◌}
use Rattle.integrals.specs.Sums.{product_of}
use Rattle.roll.specs.inner.Again.{between}
use Rattle.integrals.proofs.sums.product.Given as goal

abbrev pub invariant-loop-at : goal.invariant-loop-at
invariant-loop-at l = product_of l.table (between l.roll l.at l.end) l.g ≡ product_of l.table (between l.roll l.from l.end) l.start
