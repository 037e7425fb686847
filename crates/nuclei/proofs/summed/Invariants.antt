-- `summed` meets its contract: what is left of the list, after the sum so far, gives the whole. Assumes nothing.
use Prim.Native.Nat.{◌+◌, ◌*◌}
use mathlib.Core.Path.{◌≡◌}
use lib.ListN.{drop}
use Rattle.geometry.specs.Floats.{zero as 0·0}
use Rattle.integrals.specs.inner.Stored.{again_from}
use Rattle.nuclei.specs.inner.Listed.{summed_from}
use Rattle.nuclei.proofs.summed.Given as goal

abbrev pub invariant-loop-c : goal.invariant-loop-c
invariant-loop-c l = (l.from ≡ l.c-index * (l.cursor.l + 1)) × (summed_from l.cursor.l l.a l.b l.aux (drop l.c-index l.nuclei) (drop l.from l.boys) (again_from l.roll l.cursor) l.sum ≡ summed_from l.cursor.l l.a l.b l.aux l.nuclei l.boys (again_from l.roll l.cursor) 0·0)
