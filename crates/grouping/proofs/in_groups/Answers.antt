-- `in_groups` meets its contract: no room, or the grouping and its sum. Assumes nothing.
use native.Mathlib.Omega.{arith}
use Prim.Native.Nat.{ℕ}
use Rattle.grouping.proofs.GroupedLaws.{no-room-told, lay-may, grouped-told}
use Rattle.grouping.proofs.in_groups.Goals as goal

pub returns-then-buffer-terms : goal.returns-then-buffer-terms
returns-then-buffer-terms c = search no-room-told

pub group-requires : goal.group-requires
group-requires c = lay-may _ _ (λ (i : ℕ). omega (arith, c.type_inv.roll i)) c.requires _ (omega arith)

pub returns : goal.returns
returns c = grouped-told _ _ (λ (i : ℕ). omega (arith, c.type_inv.roll i)) c.requires _ _ (omega arith) c.group.ensures _ _ _ (λ (i : ℕ). omega (arith, c.slice_known-2-1.given i)) c.summed.ensures
