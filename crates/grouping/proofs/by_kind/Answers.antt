-- `by_kind` meets its contract. Assumes nothing.
use Rattle.grouping.proofs.GroupedLaws.{groups-may, coulomb-told, other-told}
use Rattle.grouping.proofs.by_kind.Goals as goal

pub in_groups-requires : goal.in_groups-requires
in_groups-requires c = search groups-may

pub returns-then-cursor-number : goal.returns-then-cursor-number
returns-then-cursor-number c = search coulomb-told

pub returns : goal.returns
returns c = search other-told
