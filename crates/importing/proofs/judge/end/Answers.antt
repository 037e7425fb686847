-- `end` meets its contract, a law for each answer. Assumes nothing.
use Rattle.importing.proofs.Judging.{end-right, end_short, end-many, end-broken}
use Rattle.importing.proofs.judge.end.Goals as goal
use Rattle.importing.proofs.judge.end.Goals.{in_default-via-in-Some+else-n-ge2, in_default-via-in_default}

pub returns-then-s-at : goal.returns-then-s-at
returns-then-s-at c = search end-right

pub returns-in-Some : goal.returns-in-Some
returns-in-Some c = rw c.refused.ensures (end-many _ _ _ _ _ _ _ _ c.if-s-at.false c.shape_at.ensures c.in-Some.is c.if-n-ge2.true)

pub returns-in_default : goal.returns-in_default
returns-in_default c =
    rw c.refused-in_default.ensures (elim c.in_default.branch [
      | in_default-via-in-Some+else-n-ge2 w ↦ end_short _ _ _ _ _ _ _ _ c.if-s-at.false c.shape_at.ensures w.in-Some.is w.if-n-ge2.false
      | in_default-via-in_default w ↦ end-broken _ _ _ _ _ _ c.if-s-at.false c.shape_at.ensures w.in_default.is
    ])
