-- `cleared` meets its contract. The loop's invariant is `Clearing`: the first so many are there, zeros behind. Assumes nothing.
use Rattle.form2.proofs.CursorLaws.{clearing-done}
use Rattle.form2.proofs.cursor.cleared.Goals as goal

pub returns : goal.returns
returns c = search clearing-done
