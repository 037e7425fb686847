-- `in_places` meets its contract: the values, then what is left of the zeros. Assumes nothing.
use mathlib.Core.Path.{ap}
use mathlib.Core.List.{List, ◌++◌}
use lib.Ieee.{Float}
use lib.ListN.{length}
use Rattle.std.proofs.lemmas.List.{drop-replicate}
use Rattle.kind.specs.Limits.{table_places}
use Rattle.geometry.specs.Floats.{zero}
use Rattle.geometry.proofs.in_places.Goals as goal

pub returns : goal.returns
returns c =
    let values = c.args.values.now in
    rw c.copy_from_slice.ensures.after (ap (λ (left : List Float). values ++ left) (drop-replicate (length values) table_places zero))
