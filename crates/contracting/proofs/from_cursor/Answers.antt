-- `from_cursor` meets its contract: no kind, another kind, or the checks. Assumes nothing.
use Rattle.integrals.specs.Values.{refused_unless}
use Rattle.contracting.specs.inner.Summed.{of_cursor}
use Rattle.contracting.proofs.from_cursor.Goals as goal

pub returns-in_default : goal.returns-in_default
unfolding of_cursor
returns-in_default c = rw (← c.in_default.ensures)

pub returns-then-not-contracts : goal.returns-then-not-contracts
unfolding of_cursor refused_unless
returns-then-not-contracts c = rw (← c.in-Some.ensures, ← c.contracts.ensures, c.if-not-contracts.true)

pub returns : goal.returns
unfolding of_cursor refused_unless
returns c = rw (← c.in-Some.ensures, ← c.contracts.ensures, c.if-not-contracts.false) c.checked.ensures
