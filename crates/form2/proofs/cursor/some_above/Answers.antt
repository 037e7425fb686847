-- `some_above` meets its contract. The loop's invariant is `Above`: from a place on as of the whole. Assumes nothing.
use Rattle.form2.proofs.CursorLaws.{above-found, above_more, above-done}
use Rattle.form2.proofs.cursor.some_above.Goals as goal

pub returns-then-table-wide : goal.returns-then-table-wide
returns-then-table-wide c = search above-found

pub loop-i-preserved : goal.loop-i-preserved
loop-i-preserved c = search above_more

pub returns : goal.returns
returns c = search above-done
