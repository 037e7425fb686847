-- Inside the crate: an entry that was read, as the code holds it.
use Rattle.std.specs.Prelude.{Result, Ok, Err}
use Rattle.kind.specs.declared.refusals.Fault.{Fault}
use Rattle.term.specs.Terms.{held}
use Rattle.roll.specs.Field.{fault}
use Rattle.roll.specs.Reading.{Reading, got, refused}
use Rattle.grouping.specs.declared.restoring.ReadEntry.{ReadEntry}
use Rattle.grouping.specs.Grouping.{Entry}

abbrev pub held_entry : Reading Entry → Result ReadEntry Fault
held_entry (got e end) = Ok (record { number = e.number; term = held e.term; end = end })
held_entry (refused r place) = Err (fault r place)
