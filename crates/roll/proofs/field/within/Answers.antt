-- `within` meets its contract: the quick way gives what the reader gives. Assumes nothing.
use Rattle.roll.proofs.FieldLaws.{quick-given}
use Rattle.roll.proofs.field.within.Goals as goal

pub quick-requires : goal.quick-requires
quick-requires c = search quick-given
