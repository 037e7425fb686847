-- `shape_at` meets its contract: the numbers counted, and the line that is left, are the whole line. Assumes nothing.
use Prim.Native.Nat.{◌-◌}
use lib.ListN.{length}
use Rattle.importing.proofs.Shaping.{Counting}
use Rattle.importing.proofs.lines.shape_at.Given as goal

abbrev pub invariant-loop-place : goal.invariant-loop-place
invariant-loop-place l = Counting l.s l.at l.place l.n

abbrev pub decreases-loop-place : goal.decreases-loop-place
decreases-loop-place l = length l.s - l.place
