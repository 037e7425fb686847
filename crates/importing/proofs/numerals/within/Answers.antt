-- `within` meets its contract: the number that was read, or none. Assumes nothing.
use Rattle.importing.proofs.Within.{within-not, within-low, within-high, within-last, within-is}
use Rattle.importing.proofs.numerals.within.Goals as goal
use Rattle.importing.proofs.numerals.within.Goals.{then-n-low-via-then-n-low, then-n-low-via-else-n-low+then-high-n, then-n-low-via-else-n-low+else-high-n+then-s-next}

pub returns-in_err-n : goal.returns-in_err-n
returns-in_err-n c = rw c.from_residual.ensures (within-not _ _ _ _ _ c.read_decimal.ensures c.in_err-n.was)

pub returns-then-n-low : goal.returns-then-n-low
returns-then-n-low c =
    elim c.then-n-low.branch [
      | then-n-low-via-then-n-low w ↦ within-low _ _ _ _ _ _ _ c.read_decimal.ensures c.in_ok-n.was w.if-n-low.true
      | then-n-low-via-else-n-low+then-high-n w ↦ within-high _ _ _ _ _ _ _ c.read_decimal.ensures c.in_ok-n.was w.if-n-low.false w.if-high-n.true
      | then-n-low-via-else-n-low+else-high-n+then-s-next w ↦ within-last _ _ _ _ _ _ _ c.read_decimal.ensures c.in_ok-n.was w.if-n-low.false w.if-high-n.false w.if-s-next.true
    ]

pub returns : goal.returns
returns c = within-is _ _ _ _ _ _ _ c.read_decimal.ensures c.in_ok-n.was c.if-n-low.false c.if-high-n.false c.if-s-next.false
