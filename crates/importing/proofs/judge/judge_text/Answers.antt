-- `judge_text` meets its contract: a first line of the shape, judged, or 21. Assumes nothing.
use Rattle.importing.proofs.Answers.{judged-line, judged-other, judged-broken}
use Rattle.importing.proofs.judge.judge_text.Goals as goal
use Rattle.importing.proofs.judge.judge_text.Goals.{in_default-via-in-Some+else-first_count, in_default-via-in_default}

pub returns-in-Some : goal.returns-in-Some
returns-in-Some c = search judged-line

pub returns-in_default : goal.returns-in_default
returns-in_default c =
    rw c.refused.ensures (elim c.in_default.branch [
      | in_default-via-in-Some+else-first_count w ↦ judged-other _ _ _ _ _ c.shape_at.ensures w.in-Some.is w.first_count.ensures w.if-first_count.false
      | in_default-via-in_default w ↦ judged-broken _ _ c.shape_at.ensures w.in_default.is
    ])
