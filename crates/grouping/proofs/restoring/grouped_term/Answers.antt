-- `grouped_term` meets its contract: L and the number first, then the entries. Assumes nothing.
use mathlib.Core.Path.{ap}
use Rattle.std.specs.Prelude.{Err}
use Rattle.kind.specs.declared.refusals.Fault.{Fault}
use Rattle.grouping.proofs.RestoringLaws.{restored-beyond, restored-nought, restored-above, restored-is}
use Rattle.grouping.proofs.restoring.grouped_term.Goals as goal
use Rattle.grouping.proofs.restoring.grouped_term.Goals.{then-number-eq0-via-then-number-eq0, then-number-eq0-via-else-number-eq0+then-terms-number}

pub returns-then-most_l-l : goal.returns-then-most_l-l
returns-then-most_l-l c = search restored-beyond

pub returns-then-number-eq0 : goal.returns-then-number-eq0
returns-then-number-eq0 c =
    let answer = ap (λ (f : Fault). Err f) c.from-then-number-eq0.ensures in
    elim c.then-number-eq0.branch [
      | then-number-eq0-via-then-number-eq0 w ↦
          restored-nought _ _ _ _ _ _ c.most_l.ensures c.if-most_l-l.false w.if-number-eq0.true answer
      | then-number-eq0-via-else-number-eq0+then-terms-number w ↦
          restored-above _ _ _ _ _ _ c.most_l.ensures c.if-most_l-l.false w.if-number-eq0.false w.if-terms-number.true answer
    ]

pub returns : goal.returns
returns c = search restored-is
