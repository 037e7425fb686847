-- `outer` meets its contract: what is left of the right function gives the whole sum. Assumes nothing.
use Prim.Native.Nat.{◌*◌}
use mathlib.Core.Path.{◌≡◌}
use lib.ListN.{length, drop}
use Rattle.integrals.specs.inner.Stored.{again_from}
use Rattle.contracting.specs.Pairs.{rows_from}
use Rattle.contracting.specs.Elements.{outer_from, element_of}
use Rattle.contracting.specs.inner.Summed.{kept_value}
use Rattle.contracting.proofs.sums.outer.Given as goal

abbrev pub invariant-loop-b : goal.invariant-loop-b
invariant-loop-b l = let v = kept_value l.terms.kind l.terms.cursor.l (again_from l.roll l.terms.cursor) in (l.from ≡ l.b-index * length l.lefts) × (outer_from v (rows_from l.host l.lefts l.b-index (drop l.b-index l.rights)) l.element ≡ element_of v (rows_from l.host l.lefts 0 l.rights))
