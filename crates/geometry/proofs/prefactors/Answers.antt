-- `prefactors` meets its contract: a table of a kind, or no kind. Assumes nothing.
use Rattle.geometry.specs.Checks.{named_table_of, prefactor_table_of}
use Rattle.geometry.proofs.prefactors.Goals as goal

pub returns-in_default : goal.returns-in_default
unfolding prefactor_table_of named_table_of
returns-in_default c = rw (← c.in_default.ensures)

pub returns : goal.returns
unfolding prefactor_table_of named_table_of
returns c = rw (← c.in-Some.ensures) c.checked_table.ensures
