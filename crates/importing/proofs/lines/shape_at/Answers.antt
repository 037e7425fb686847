-- `shape_at` meets its contract: the numbers counted, and the line that is left, are the whole line. Assumes nothing.
use Rattle.importing.proofs.Shaping.{digits-end, counting-first, counting-cut, counting-past, counting-not, counting-feed, counting-neither, counting_more}
use Rattle.importing.proofs.lines.shape_at.Goals as goal
use Rattle.importing.proofs.lines.shape_at.Goals.{then-s-end-via-then-s-end, then-s-end-via-else-s-end+then-not-is_number}

pub loop-place-init : goal.loop-place-init
loop-place-init c = search counting-first

pub is_number-requires : goal.is_number-requires
is_number-requires c = search digits-end

pub returns-then-s-end : goal.returns-then-s-end
returns-then-s-end c =
    elim c.then-s-end.branch [
      | then-s-end-via-then-s-end w ↦ search (counting-cut, digits-end)
      | then-s-end-via-else-s-end+then-not-is_number w ↦ search (counting-not, digits-end)
    ]

pub returns-in-10 : goal.returns-in-10
returns-in-10 c = search (counting-feed, digits-end)

pub returns-in_default : goal.returns-in_default
returns-in_default c = search (counting-neither, digits-end)

pub loop-place-preserved : goal.loop-place-preserved
loop-place-preserved c = search (counting_more, digits-end)

pub returns : goal.returns
returns c = search counting-past
