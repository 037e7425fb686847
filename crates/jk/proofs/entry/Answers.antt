-- `entry` meets its contract: lambda after lambda, each row by `add_row`. Assumes nothing.
use native.Mathlib.Nat.{sub-zero}
use Rattle.jk.specs.Sums.{entry_of}
use Rattle.jk.proofs.Sizes.{row_fits, whole_room, square-room}
use Rattle.jk.proofs.Sums.{lambda-more, lambda-done}
use Rattle.jk.proofs.entry.Goals as goal

pub loop-lambda-init : goal.loop-lambda-init
unfolding entry_of
loop-lambda-init c = rw sub-zero

pub overflow_mul-at : goal.overflow_mul-at
overflow_mul-at c = search row_fits

pub add_row-sum-requires : goal.add_row-sum-requires
add_row-sum-requires c = search (whole_room, square-room)

pub loop-lambda-preserved : goal.loop-lambda-preserved
loop-lambda-preserved c = search lambda-more

pub returns : goal.returns
returns c = search lambda-done
