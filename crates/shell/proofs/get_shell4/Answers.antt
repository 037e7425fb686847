-- `get_shell4` meets its contract: refusal 2 by two pairs, then by number. Assumes nothing.
use Rattle.shell.proofs.Components.{low_first, low_second, refused-first, refused-second, numbered-four}
use Rattle.shell.proofs.get_shell4.Goals as goal
use Rattle.shell.proofs.get_shell4.Goals.{then-too_high-via-then-too_high, then-too_high-via-else-too_high+then-too_high-2}

pub returns-then-too_high : goal.returns-then-too_high
returns-then-too_high c =
    elim c.then-too_high.branch [
      | then-too_high-via-then-too_high w ↦ search refused-first
      | then-too_high-via-else-too_high+then-too_high-2 w ↦ search refused-second
    ]

pub numbered-requires : goal.numbered-requires
numbered-requires c = (search low_first, search low_second, search low_first, search low_second)

pub returns : goal.returns
returns c = search numbered-four
