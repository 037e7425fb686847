-- `forged_earlier` meets its contract: too many, or one not below the table size. Assumes nothing.
use Rattle.form2.proofs.CursorLaws.{forged-many, forged-some}
use Rattle.form2.proofs.cursor.forged_earlier.Goals as goal

pub returns-then-most_prefactors-count : goal.returns-then-most_prefactors-count
returns-then-most_prefactors-count c = search forged-many

pub returns : goal.returns
returns c = search forged-some
