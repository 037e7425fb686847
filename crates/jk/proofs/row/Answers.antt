-- `row` meets its contract: each arm is the definition at its matrix. Assumes nothing.
use borrow.Author.Rules.{rules}
use Rattle.jk.specs.inner.Rows.{row_of}
use Rattle.jk.proofs.row.Goals as goal

pub returns-in-J : goal.returns-in-J
unfolding row_of
returns-in-J c = search rules

pub returns-in-K : goal.returns-in-K
unfolding row_of
returns-in-K c = search rules
