-- `inner` meets its contract: what is left of the left function gives the whole sum. Assumes nothing.
use native.Mathlib.Omega.{arith}
use Prim.Native.Nat.{◌<◌, ◌+◌}
use lib.ListN.{length}
use Rattle.contracting.proofs.SumLaws.{inner-more, inner-done}
use Rattle.contracting.proofs.sums.inner.Goals as goal

pub loop-i-preserved : goal.loop-i-preserved
loop-i-preserved c =
    let inside : c.args.from + c.loop-i.i < length c.args.host.now = omega arith in
    search inner-more

pub returns : goal.returns
returns c = search inner-done
