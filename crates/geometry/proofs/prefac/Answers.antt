-- `prefac` meets its contract: each arm is the definition at its kind. Assumes nothing.
use borrow.Author.Rules.{rules}
use Rattle.geometry.specs.Tables.{entries_of, prefac}
use Rattle.geometry.proofs.prefac.Goals as goal

pub returns-in-Overlap : goal.returns-in-Overlap
unfolding prefac entries_of
returns-in-Overlap c = search rules

pub returns-in-Kinetic : goal.returns-in-Kinetic
unfolding prefac entries_of
returns-in-Kinetic c = search rules

pub returns-in-Nuclear : goal.returns-in-Nuclear
unfolding prefac entries_of
returns-in-Nuclear c = search rules

pub returns-in-Moment : goal.returns-in-Moment
unfolding prefac entries_of
returns-in-Moment c = search rules

pub returns-in-Coulomb : goal.returns-in-Coulomb
unfolding prefac entries_of
returns-in-Coulomb c = search rules
