-- `inner` meets its contract: what is left of the left function gives the whole sum. Assumes nothing.
use Prim.Native.Nat.{◌+◌}
use mathlib.Core.Path.{◌≡◌}
use lib.ListN.{drop}
use Rattle.geometry.specs.Floats.{zero}
use Rattle.integrals.specs.inner.Stored.{again_from}
use Rattle.contracting.specs.Pairs.{pairs_with}
use Rattle.contracting.specs.Elements.{inner_from}
use Rattle.contracting.specs.inner.Summed.{kept_value}
use Rattle.contracting.proofs.sums.inner.Given as goal

abbrev pub invariant-loop-i : goal.invariant-loop-i
invariant-loop-i l = let v = kept_value l.terms.kind l.terms.cursor.l (again_from l.roll l.terms.cursor) in inner_from v (pairs_with l.host (l.from + l.i) l.b (drop l.i l.lefts)) l.sum ≡ inner_from v (pairs_with l.host l.from l.b l.lefts) zero
