-- `next_at` meets its contract: the entry that is read has to stand. Assumes nothing.
use Rattle.std.proofs.lemmas.Result.{err_from_is_err_and}
use Rattle.grouping.proofs.RestoringLaws.{next-unread, next-not, next-second, next-stands}
use Rattle.grouping.proofs.restoring.next_at.Goals as goal
use Rattle.grouping.proofs.restoring.next_at.Goals.{then-not-is_behind-via-then-not-is_behind, then-not-is_behind-via-else-not-is_behind+then-is_second}

pub returns-in_err-entry : goal.returns-in_err-entry
returns-in_err-entry c =
    let p = err_from_is_err_and c.from_residual.result c.from_residual.ensures.1 in
    rw (p.1, p.2) (next-unread _ _ _ _ _ _ _ c.entry_at.ensures _ c.in_err-entry.was)

pub returns-then-not-is_behind : goal.returns-then-not-is_behind
returns-then-not-is_behind c =
    elim c.then-not-is_behind.branch [
      | then-not-is_behind-via-then-not-is_behind w ↦
          next-not _ _ _ _ _ _ _ c.entry_at.ensures _ c.in_ok-entry.was _ c.is_behind.ensures _ w.if-not-is_behind.true c.no_grouping.ensures
      | then-not-is_behind-via-else-not-is_behind+then-is_second w ↦
          next-second _ _ _ _ _ _ _ c.entry_at.ensures _ c.in_ok-entry.was _ c.is_behind.ensures _ _ w.if-not-is_behind.false w.is_second.ensures w.if-is_second.true c.no_grouping.ensures
    ]

pub returns : goal.returns
returns c = next-stands _ _ _ _ _ _ _ c.entry_at.ensures _ c.in_ok-entry.was _ c.is_behind.ensures _ c.if-not-is_behind.false c.is_second.ensures c.if-is_second.false
