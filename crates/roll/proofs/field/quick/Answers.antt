-- `quick` meets its contract. Assumes nothing.
use Rattle.roll.proofs.FieldLaws.{quick-read}
use Rattle.roll.proofs.field.quick.Goals as goal

pub returns : goal.returns
returns c = search quick-read
